-- A list has its first zero byte where the specification has it, and where it has none the specification's is the length.
use mathlib.Core.Path.{◌≡◌, refl, sym, ◌∙◌, ap}
use mathlib.Core.List.{List, [], ◌∷◌}
use mathlib.Core.Bool.{Bool, true, false, not}
use Prim.Native.Nat.{ℕ, suc, ◌+◌, ◌-◌, ◌≤◌, ◌<◌}
use native.Mathlib.Omega.{arith}
use lib.Dec.{eqb, ltb}
use lib.ListN.{length, take, drop, length-take, length-drop}
use lib.Seq.{drop-drop}
use borrow.Author.Tests.{eq-eqb, ne_eqb, lt-ltb, le-ltb, ltb-true, ltb-false}
use Rattle.std.specs.Prelude.{Option, Some, None, unwrap_or, cond, if◌then◌else◌}
use Rattle.std.proofs.lemmas.List.{take-append-drop}
use Rattle.std.specs.List.{position, prefix_len}
use Rattle.std.proofs.lemmas.List.Folds.{prefix_len-append}
use Rattle.format.specs.Items.{to_zero}
use Rattle.format.proofs.Strings.{zero_le}

before_zero : (xs : List ℕ) → prefix_len (λ x. not (eqb x 0)) xs ≡ to_zero xs
unfolding to_zero
before_zero [] = refl
before_zero (x ∷ xs) = by (eqb x 0) (before_zero xs)
  where
    by : (t : Bool) → prefix_len (λ x. not (eqb x 0)) xs ≡ to_zero xs → cond (not t) (1 + prefix_len (λ x. not (eqb x 0)) xs) 0 ≡ (if t then 0 else suc (to_zero xs))
    by true e = refl
    by false e = rw e (omega arith)

pub first_zero : (xs : List ℕ) → unwrap_or (position (λ x. eqb x 0) xs) (length xs) ≡ to_zero xs
first_zero xs = rw (before_zero xs) (by (ltb (to_zero xs) (length xs)) refl)
  where
    by : (t : Bool) → ltb (to_zero xs) (length xs) ≡ t → unwrap_or (cond t (Some (to_zero xs)) None) (length xs) ≡ to_zero xs
    by true e = refl
    by false e = omega (arith, ltb-false (to_zero xs) (length xs) e, zero_le xs)

-- the first zero is amongst the first n bytes, or after them
parts : (n : ℕ) (xs : List ℕ) → to_zero xs
    ≡ cond (eqb (to_zero (take n xs)) (length (take n xs))) (length (take n xs) + to_zero (drop n xs)) (to_zero (take n xs))
parts n xs =
    rw (← before_zero xs, ← before_zero (take n xs), ← before_zero (drop n xs))
    (ap (prefix_len (λ x. not (eqb x 0))) (sym (take-append-drop n xs)) ∙ prefix_len-append _ (take n xs) (drop n xs))

-- what the library's search answers
module _ (xs : List ℕ) where
  told : {r : Option ℕ} → r ≡ position (λ x. eqb x 0) xs → to_zero xs ≡ unwrap_or r (length xs)
  told e = sym (first_zero xs) ∙ ap (λ r. unwrap_or r (length xs)) (sym e)

  inside : {i : ℕ} → Some i ≡ position (λ x. eqb x 0) xs → to_zero xs < length xs
  inside {i} e = by (ltb (to_zero xs) (length xs)) refl (rw (before_zero xs) at e)
    where
      by : (t : Bool) → ltb (to_zero xs) (length xs) ≡ t → Some i ≡ cond t (Some (to_zero xs)) None → to_zero xs < length xs
      by true l e = ltb-true (to_zero xs) (length xs) l
      by false l e = absurd cc

-- no byte before `at` is zero
pub record Passed (xs : List ℕ) (at : ℕ) : Type 0 where
  pub within : at ≤ length xs
  pub rest : to_zero xs ≡ at + to_zero (drop at xs)

-- a look at the n bytes there
module _ {xs : List ℕ} {at : ℕ} (w : Passed xs at) (n : ℕ) where
  pub amongst : {i : ℕ} → Some i ≡ position (λ x. eqb x 0) (take n (drop at xs)) → Some (at + i) ≡ position (λ x. eqb x 0) xs
  amongst {i} e =
      let first = take n (drop at xs) in
      let some = inside first e in
      let here : to_zero (drop at xs) ≡ to_zero first = parts n (drop at xs) ∙ rw (ne_eqb (to_zero first) (length first) (omega (arith, some))) refl in
      let is : to_zero xs ≡ at + i = w.rest ∙ ap (λ k. at + k) (here ∙ told first e) in
      let last : at + i < length xs = omega (arith, told first e, some, length-take n (drop at xs), length-drop at xs, w.within) in
      rw (before_zero xs, is, lt-ltb (at + i) (length xs) last)

  pub after : n ≤ length xs - at → None ≡ position (λ x. eqb x 0) (take n (drop at xs)) → Passed xs (at + n)
  after few e =
      let first = take n (drop at xs) in
      let size : length first ≡ n = omega (arith, length-take n (drop at xs), length-drop at xs) in
      let on : to_zero (drop at xs) ≡ n + to_zero (drop n (drop at xs)) =
      parts n (drop at xs) ∙ rw (eq-eqb (to_zero first) (length first) (told first e), size) refl in
      record { within = omega (arith, w.within); rest = w.rest ∙ rw (on, drop-drop n at xs) (omega arith) }

-- a look at all that is left
pub nowhere : {xs : List ℕ} {at : ℕ} → Passed xs at → None ≡ position (λ x. eqb x 0) (take (length xs - at) (drop at xs))
    → None ≡ position (λ x. eqb x 0) xs
nowhere {xs} {at} w e =
    let past = after w (length xs - at) (omega arith) e in
    let end = at + (length xs - at) in
    let is : to_zero xs ≡ length xs = omega (arith, past.rest, w.within, zero_le (drop end xs), length-drop end xs) in
    rw (before_zero xs, is, le-ltb (length xs) (length xs) (omega arith))
