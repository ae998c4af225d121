-- The bytes of a name, copied one by one into the part of the table from an index on.
use mathlib.Core.Path.{◌≡◌, refl, sym, ap, ◌∙◌}
use mathlib.Core.List.{List, [], ◌∷◌, ◌++◌, append_assoc}
use Prim.Native.Nat.{ℕ, ◌+◌, ◌-◌, ◌≤◌, ◌<◌}
use native.Mathlib.Omega.{arith}
use native.Mathlib.Numerals.{add-one}
use borrow.Rule.Slice.PartMut.{put_mid}
use lib.ListN.{length, get_or, take, drop, set, length-take, length-drop, length-set}
use lib.Seq.{drop-drop, take-length, take-suc, take-suc-set}
use Rattle.format.specs.Promises.{Put}

-- the bytes before the index are copied
pub record BytesCopied (from : List ℕ) (i : ℕ) (to : List ℕ) : Type 0 where
  pub few : i ≤ length from
  pub same : length from ≡ length to
  pub so_far : take i to ≡ take i from

pub bytes_begin : {from to : List ℕ} → length from ≡ length to → BytesCopied from 0 to
bytes_begin same = record { few = omega arith; same = same; so_far = refl }

module _ {from : List ℕ} {i : ℕ} {to : List ℕ} (c : BytesCopied from i to) where
  pub bytes_turn : i < length from → BytesCopied from (i + 1) (set to i (get_or from i 0))
  bytes_turn some =
      let v = get_or from i 0 in
      record {
        few = omega arith;
        same = c.same ∙ sym (length-set to i v);
        so_far = rw (add-one i) (take-suc-set to i v (omega (arith, c.same, some)) ∙ ap (λ z. z ++ (v ∷ [])) c.so_far ∙ sym (take-suc from i 0 some));
      }

  pub bytes_end : length from ≤ i → to ≡ from
  bytes_end end =
      let of_it : length to ≡ i = omega (arith, c.few, c.same) in
      let all : i ≡ length from = omega (arith, c.few) in
      let front : take i to ≡ to = rw of_it at (take-length to) in
      let whole : take i from ≡ from = rw all (take-length from) in
      sym front ∙ c.so_far ∙ whole

-- they are the part of the table
pub copied : (s : List ℕ) (at n : ℕ) {table part : List ℕ} {m : ℕ} → at + n ≤ length s → part ≡ take (at + n - at) (drop at s)
    → Put table m (take n (drop at s)) (put_mid m (m + n - m) table part)
copied s at n {table} {m = m} there e =
    let from : at + n - at ≡ n = omega arith in
    let onto : m + n - m ≡ n = omega arith in
    let long : length (take n (drop at s)) ≡ n = simp (length-take, length-drop) (omega arith) in
    record { put = rw (e, from, onto, long) (sym (append_assoc (take m table) (take n (drop at s)) (drop n (drop m table))) ∙ ap (λ z. take m table ++ take n (drop at s) ++ z) (drop-drop n m table)) }
