-- Words that are put into a table, one after another.
use mathlib.Core.Path.{◌≡◌, refl, sym, ap, ◌∙◌}
use mathlib.Core.List.{List, [], ◌∷◌, ◌++◌, append_assoc, append-nil, map, map-append}
use Prim.Native.Nat.{ℕ, suc, ◌+◌, ◌≤◌, ◌<◌}
use native.Mathlib.Nat.{add-zero}
use native.Mathlib.Omega.{arith}
use lib.ListN.{length, take, drop, get_or, set, length-take, length-drop, length-append, take-append-drop}
use lib.Seq.{take_at, drop-append-add, drop-drop, drop-cons, set_at}
use Rattle.format.specs.Bytes.{joined}
use Rattle.format.specs.Promises.{Put}

pub joined_append : {A : Type 0} (xss yss : List (List A)) → joined (xss ++ yss) ≡ joined xss ++ joined yss
unfolding joined
joined_append [] yss = refl
joined_append (xs ∷ xss) yss = rw (joined_append xss yss, append_assoc)

pub joined_map_append : {A B : Type 0} (f : A → List B) (xs ys : List A) → joined (map f (xs ++ ys)) ≡ joined (map f xs) ++ joined (map f ys)
joined_map_append f xs ys = ap joined (map-append f xs ys) ∙ joined_append (map f xs) (map f ys)

pub total_append : {A B : Type 0} (f : A → List B) (xs ys : List A)
    → length (joined (map f (xs ++ ys))) ≡ length (joined (map f xs)) + length (joined (map f ys))
total_append f xs ys = ap length (joined_map_append f xs ys) ∙ length-append (joined (map f xs)) (joined (map f ys))

pub put_none : (t : List ℕ) (m : ℕ) → Put t m [] t
put_none t m = record { put = sym (rw (append-nil, add-zero m) (take-append-drop m t)) }

module _ {t t' ws : List ℕ} {m : ℕ} (p : Put t m ws t') where
  front : m + length ws ≤ length t → length (take m t ++ ws) ≡ m + length ws
  front room = simp (length-append, length-take) (omega arith)

  pub put_length : m + length ws ≤ length t → length t' ≡ length t
  put_length room = rw p.put (simp (length-append, length-take, length-drop) (omega arith))

  pub put_snoc : (v : ℕ) → m + length ws < length t → Put t m (ws ++ (v ∷ [])) (set t' (m + length ws) v)
  put_snoc v room =
      let k = m + length ws in
      let long : m + length (ws ++ (v ∷ [])) ≡ suc k = simp length-append (omega arith) in
      record {
        put = rw (p.put, drop-cons t k 0 room, set_at (take m t ++ ws) (get_or t k 0) (drop (suc k) t) v k (front (omega arith)), long)
            (sym (append_assoc (take m t ++ ws) (v ∷ []) (drop (suc k) t)) ∙ ap (λ z. z ++ drop (suc k) t) (append_assoc (take m t) ws (v ∷ [])));
      }

  pub put_append : {us t'' : List ℕ} → Put t' (m + length ws) us t'' → m + length ws + length us ≤ length t → Put t m (ws ++ us) t''
  put_append {us} {t''} q room =
      let k = m + length ws in
      let f = front (omega arith) in
      let long : m + length (ws ++ us) ≡ k + length us = simp length-append (omega arith) in
      let head : take k t' ≡ take m t ++ ws = rw p.put (take_at (take m t ++ ws) (drop k t) k f) in
      let tail : drop (k + length us) t' ≡ drop (k + length us) t = rw p.put (rest (take m t ++ ws) k f us) in
      record { put = q.put ∙ rw (head, tail, long) (ap (λ z. z ++ drop (k + length us) t) (append_assoc (take m t) ws us)) }
    where
      rest : (xs : List ℕ) (k : ℕ) → length xs ≡ k → (us : List ℕ) → drop (k + length us) (xs ++ drop k t) ≡ drop (k + length us) t
      rest xs k e us = rw (← e) (drop-append-add xs (drop (length xs) t) (length us) ∙ drop-drop (length us) (length xs) t)
