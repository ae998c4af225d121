-- A string at a place: a name up to its first zero byte, and one more zero byte where name and terminator together are odd.
use Rattle.std.specs.Prelude.{if◌then◌else◌}
use mathlib.Core.Path.{◌≡◌, refl, sym, ap, ◌∙◌}
use mathlib.Core.List.{List, [], ◌∷◌}
use mathlib.Core.Bool.{Bool, true, false, ◌&&◌}
use Prim.Native.Nat.{ℕ, zero, suc, ◌+◌, ◌-◌, ◌%◌, ◌≤◌, ◌<◌}
use native.Mathlib.Omega.{arith}
use lib.Dec.{eqb}
use lib.ListN.{length, get_or, take, drop, length-drop, length-take}
use lib.Seq.{drop-cons, drop-drop, get_or-drop}
use borrow.Author.Tests.{ne_eqb, le-leb, lt-leb, eqb-true}
use Rattle.format.specs.declared.Fault.TheVariants.{StringOpen}
use Rattle.format.specs.Bytes.{all}
use Rattle.format.specs.Items.{fault, to_zero, string_size, string}
use Rattle.format.specs.Promises.{ReadsAt, name_size, got}
use Rattle.format.proofs.ReaderSteps.{exact}

pub zero_le : (t : List ℕ) → to_zero t ≤ length t
unfolding to_zero
zero_le [] = omega arith
zero_le (b ∷ t) = by (eqb b 0) (zero_le t)
  where
    by : (e : Bool) → to_zero t ≤ length t → (if e then 0 else suc (to_zero t)) ≤ suc (length t)
    by true h = omega arith
    by false h = omega arith

zero_at : (t : List ℕ) → to_zero t < length t → get_or t (to_zero t) 0 ≡ 0
unfolding to_zero
zero_at [] h = absurd (omega arith)
zero_at (b ∷ t) h = by (eqb b 0) refl (zero_at t) h
  where
    by : (e : Bool) → eqb b 0 ≡ e → (to_zero t < length t → get_or t (to_zero t) 0 ≡ 0) → (if e then 0 else suc (to_zero t)) < suc (length t)
        → get_or (b ∷ t) (if e then 0 else suc (to_zero t)) 0 ≡ 0
    by true is rest l = eqb-true b 0 is
    by false is rest l = rest (omega arith)

alone : (x : Bool) → (x && true) ≡ x
alone true = refl
alone false = refl

-- the bytes after the name are zero where the last of them is
zeros : (t : List ℕ) (n : ℕ) → get_or t n 0 ≡ 0 → string_size n ≤ length t → all (eqb 0) (take (string_size n - n) (drop n t)) ≡ eqb 0 (get_or t (n + 1 - n % 2) 0)
unfolding all
zeros t n z h = by (n % 2) refl (omega arith)
  where
    by : (k : ℕ) → n % 2 ≡ k → k < 2 → all (eqb 0) (take (string_size n - n) (drop n t)) ≡ eqb 0 (get_or t (n + 1 - n % 2) 0)
    by zero e l =
        let size : string_size n - n ≡ 2 = omega arith in
        let last : n + 1 - n % 2 ≡ suc n = omega arith in
        rw (size, last, drop-cons t n 0 (omega arith), drop-cons t (suc n) 0 (omega arith), z) (alone (eqb 0 (get_or t (suc n) 0)))
    by (suc zero) e l =
        let size : string_size n - n ≡ 1 = omega arith in
        let last : n + 1 - n % 2 ≡ n = omega arith in
        rw (size, last, drop-cons t n 0 (omega arith), z)
    by (suc (suc k)) e l = absurd (omega arith)

module _ (s : List ℕ) (at n : ℕ) (is : n ≡ to_zero (drop at s)) where
  pub short : length s - at < string_size n → ReadsAt string name_size s at (fault StringOpen at)
  unfolding string
  short h =
      let few : length (drop at s) < string_size n = rw length-drop h in
      record { says = exact (rw (← is, lt-leb _ _ few)); moves = tt }

  module _ (long : string_size n ≤ length s - at) where
    some : string_size n ≤ length (drop at s)
    some = rw length-drop long

    ended : get_or (drop at s) n 0 ≡ 0
    ended = rw is (zero_at (drop at s) (omega (arith, some, is)))

    last : all (eqb 0) (take (string_size n - n) (drop n (drop at s))) ≡ eqb 0 (get_or s (at + (string_size n) - 1) 0)
    last =
        let e : at + (n + 1 - n % 2) ≡ at + (string_size n) - 1 = omega arith in
        zeros (drop at s) n ended some ∙ ap (eqb 0) (get_or-drop at s (n + 1 - n % 2) 0 ∙ ap (λ i. get_or s i 0) e)

    pub text : get_or s (at + (string_size n) - 1) 0 ≡ 0 → ReadsAt string name_size s at (got s (take n (drop at s)) (at + (string_size n)))
    unfolding string
    text z = record {
      says = exact (rw (← is, le-leb _ _ some, last, z, drop-drop (string_size n) at s));
      moves = rw length-take (omega arith);
    }

    pub bad_text : (get_or s (at + (string_size n) - 1) 0 ≡ 0 → ⊥) → ReadsAt string name_size s at (fault StringOpen at)
    unfolding string
    bad_text z = record { says = exact (rw (← is, le-leb _ _ some, last, ne_eqb 0 _ (λ e. z (sym e)))); moves = tt }
