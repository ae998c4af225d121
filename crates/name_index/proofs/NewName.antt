-- One name more in the index: the links of its bucket start at it, and go on from there as before.
use Prim.Native.Nat.{ℕ, ◌+◌, ◌-◌, ◌*◌, ◌/◌, ◌%◌, ◌<◌, ◌≤◌}
use mathlib.Core.Path.{◌≡◌, refl, sym, ap, ◌∙◌}
use mathlib.Core.List.{List, [], ◌∷◌, ◌++◌, map-append}
use mathlib.Core.Bool.{Bool, true, false}
use mathlib.Core.Logic.{◌⊎◌, inl, inr, ⊎_elim}
use native.Mathlib.Numerals.{add-one}
use native.Mathlib.Omega.{arith}
use lib.Dec.{eqb}
use lib.ListN.{length, get_or, set, take, drop, replicate, get_or-replicate, length-append, length-replicate, length-set, get_or-append}
use lib.Seq.{get_or-set_same, get_or-set_other, get_or_at, take-suc-set, length-take-le}
use borrow.Author.Tests.{eqb-true, eqb-false}
use Rattle.name_index.specs.Index.{bucket_of, name_of, names_of, Inside, AllInside, Reach, here, there, Index}
use Rattle.name_index.proofs.HashLoop.{bucket_less}

-- ---- the links

module _ {links : List ℕ} {m : ℕ} (v : ℕ) (down : (k : ℕ) → k < m → get_or links k 0 ≤ k) where
  stays : {j k : ℕ} → k ≤ m → Reach links j k → Reach (set links m v) j k
  stays l (here e) = here e
  stays {j} {k} l (there p r) =
      let d = down (k - 1) (omega arith) in
      let e : get_or (set links m v) (k - 1) 0 ≡ get_or links (k - 1) 0 = get_or-set_other links m (k - 1) v 0 (λ q. omega arith) in
      there p (rw e (stays (omega arith) r))

-- the last of some, or one before it
before_last : (k m : ℕ) → k < m + 1 → (k < m) ⊎ (k ≡ m)
before_last k m l = go (eqb k m) refl
  where
    go : (t : Bool) → eqb k m ≡ t → (k < m) ⊎ (k ≡ m)
    go true t = inr (eqb-true k m t)
    go false t = inl (let n = eqb-false k m t in omega arith)

-- ---- the words

module _ (words : List ℕ) (word : ℕ) where
  old_word : (k : ℕ) → k < length words → get_or (words ++ (word ∷ [])) k 0 ≡ get_or words k 0
  old_word k l = get_or-append words (word ∷ []) 0 k l

  new_word : (k : ℕ) → k ≡ length words → get_or (words ++ (word ∷ [])) k 0 ≡ word
  new_word k e = get_or_at words word [] 0 k (sym e)

  longer : length (words ++ (word ∷ [])) ≡ length words + 1
  longer = length-append words (word ∷ [])

  module _ {bytes : List ℕ} {base : ℕ} (old : AllInside bytes base words) (ins : Inside bytes base word) where
    pub one_more_inside : AllInside bytes base (words ++ (word ∷ []))
    one_more_inside = record {
      each = λ k l. ⊎_elim (λ o. rw (old_word k o) (old.each k o)) (λ e. rw (new_word k e) ins) (before_last k (length words) (omega (arith, longer)));
    }

pub none_inside : (bytes : List ℕ) (base : ℕ) → AllInside bytes base []
none_inside bytes base = record { each = λ k l. absurd (omega arith) }

-- ---- the index

module _ {multiplier : ℕ} {bytes : List ℕ} {base : ℕ} {words heads links : List ℕ} (w : Index multiplier bytes base words heads links) {m : ℕ} (many : m ≡ length words)
    (room : m < 8192) (word : ℕ) (ins : Inside bytes base word) {b : ℕ} (eb : b ≡ bucket_of multiplier (name_of bytes base word)) where
  lb : b < 16384
  lb = rw eb (bucket_less multiplier (name_of bytes base word))

  old_link : (k : ℕ) → k < m → get_or (set links m (get_or heads b 0)) k 0 ≡ get_or links k 0
  old_link k l = get_or-set_other links m k _ 0 (λ q. omega arith)

  new_link : (k : ℕ) → k ≡ m → get_or (set links m (get_or heads b 0)) k 0 ≡ get_or heads b 0
  new_link k e = ap (λ j. get_or (set links m (get_or heads b 0)) j 0) e ∙ get_or-set_same links m _ 0 (omega (arith, w.rooms.1))

  new_head : get_or (set heads b (m + 1)) b 0 ≡ m + 1
  new_head = get_or-set_same heads b _ 0 (omega (arith, w.rooms.0, lb))

  falls : (k : ℕ) → k < m → get_or links k 0 ≤ k
  falls k l = w.down k (omega arith)

  -- from the new name on, the links come to what its bucket's head came to
  past_new : {j : ℕ} → Reach links j (get_or heads b 0) → Reach (set links m (get_or heads b 0)) j (m + 1)
  past_new r =
      let e : m + 1 - 1 ≡ m = omega arith in
      there {k = m + 1} (omega arith) (rw (e, new_link m refl) (stays _ falls (omega (arith, w.tops b lb)) r))

  tops : (c : ℕ) → c < 16384 → (t : Bool) → eqb c b ≡ t → get_or (set heads b (m + 1)) c 0 ≤ m + 1
  tops c l true t = rw (eqb-true c b t, new_head) (omega arith)
  tops c l false t = rw (get_or-set_other heads b c (m + 1) 0 (eqb-false c b t)) (omega (arith, w.tops c l))

  reached : (k : ℕ) → k < m → (c : ℕ) → c ≡ bucket_of multiplier (name_of bytes base (get_or words k 0)) → (t : Bool) → eqb c b ≡ t
      → Reach (set links m (get_or heads b 0)) k (get_or (set heads b (m + 1)) c 0)
  reached k l c ec true t =
      let e = eqb-true c b t in
      rw (e, new_head) (past_new (rw (← ec, e) at (w.reached k (omega arith))))
  reached k l c ec false t =
      rw (get_or-set_other heads b c (m + 1) 0 (eqb-false c b t))
      (stays _ falls (omega (arith, w.tops c (rw ec (bucket_less multiplier (name_of bytes base (get_or words k 0)))))) (rw (← ec) at (w.reached k (omega arith))))

  pub one_more : Index multiplier bytes base (words ++ (word ∷ [])) (set heads b (m + 1)) (set links m (get_or heads b 0))
  one_more = record {
    few = omega (arith, longer words word);
    rooms = (length-set heads b (m + 1) ∙ w.rooms.0, length-set links m (get_or heads b 0) ∙ w.rooms.1);
    inside = one_more_inside words word w.inside ins;
    down = λ k l. ⊎_elim (λ o. rw (old_link k o) (falls k o)) (λ e. rw (new_link k e) (omega (arith, w.tops b lb))) (before_last k m (omega (arith, longer words word)));
    tops = λ c l. rw (longer words word, ← many) (tops c l (eqb c b) refl);
    reached = λ k l. ⊎_elim (λ o. rw (old_word words word k (omega arith)) (reached k o _ refl (eqb _ b) refl))
        (λ e. rw (new_word words word k (omega arith), ← eb, new_head) (here {k = m + 1} (omega arith)))
        (before_last k m (omega (arith, longer words word)));
  }

-- ---- none at hand

pub no_names : (multiplier : ℕ) (bytes : List ℕ) (base : ℕ) → Index multiplier bytes base [] (replicate 16384 0) (replicate 8192 0)
no_names multiplier bytes base = record {
  few = omega arith;
  rooms = (length-replicate {A = ℕ} 16384 0, length-replicate {A = ℕ} 8192 0);
  inside = none_inside bytes base;
  down = λ k l. absurd (omega arith);
  tops = λ b l. rw (get_or-replicate {A = ℕ} 16384 b 0 0 l) (omega arith);
  reached = λ k l. absurd (omega arith);
}

-- ---- the word of a name

-- its place, counted from the base, and its length
module _ (bytes : List ℕ) {base p n : ℕ} (after : base ≤ p) (fits : p + n ≤ length bytes) (short : n ≤ 255) where
  high : base + ((p - base) * 256 + n) / 256 ≡ p
  high = omega arith

  low : ((p - base) * 256 + n) % 256 ≡ n
  low = omega arith

  pub word_name : name_of bytes base ((p - base) * 256 + n) ≡ take n (drop p bytes)
  word_name = rw (low, high)

  pub word_inside : Inside bytes base ((p - base) * 256 + n)
  word_inside = rw (high, low) fits

-- ---- a name that is taken in, as number m + 1

module _ (bytes places : List ℕ) {base m p n : ℕ} (room : m < length places) (after : base ≤ p) (fits : p + n ≤ length bytes) (short : n ≤ 255) where
  taken : take (m + 1) (set places m ((p - base) * 256 + n)) ≡ take m places ++ (((p - base) * 256 + n) ∷ [])
  taken = rw add-one (take-suc-set places m ((p - base) * 256 + n) room)

  pub taken_names : names_of bytes base (take (m + 1) (set places m ((p - base) * 256 + n))) ≡ names_of bytes base (take m places) ++ (take n (drop p bytes) ∷ [])
  taken_names =
      ap (names_of bytes base) taken ∙ map-append (name_of bytes base) (take m places) (((p - base) * 256 + n) ∷ [])
      ∙ ap (λ x. names_of bytes base (take m places) ++ (x ∷ [])) (word_name bytes after fits short)

  pub taken_inside : AllInside bytes base (take m places) → AllInside bytes base (take (m + 1) (set places m ((p - base) * 256 + n)))
  taken_inside w = rw taken (one_more_inside (take m places) ((p - base) * 256 + n) w (word_inside bytes after fits short))

  module _ {multiplier : ℕ} {heads links : List ℕ} (w : Index multiplier bytes base (take m places) heads links) (few : m < 8192) {b : ℕ}
      (eb : b ≡ bucket_of multiplier (take n (drop p bytes))) where
    pub taken_in : Index multiplier bytes base (take (m + 1) (set places m ((p - base) * 256 + n))) (set heads b (m + 1)) (set links m (get_or heads b 0))
    taken_in =
        rw taken
        (one_more w (sym (length-take-le m places (omega arith))) few ((p - base) * 256 + n) (word_inside bytes after fits short)
        (eb ∙ ap (bucket_of multiplier) (sym (word_name bytes after fits short))))
