-- The levels of an LWOB surface are finite: a float with a value has bits that are neither an infinity's nor a NaN's, and n / 256 has one; the 256 colours are
-- computed.
use Prim.Native.Nat.{ℕ, zero, suc, ◌/◌, ◌%◌, ◌^◌, ◌≤◌, ◌<◌}
use mathlib.Core.Path.{◌≡◌, refl, sym, ap, ◌∙◌}
use mathlib.Core.Bool.{Bool, true, false, ◌&&◌, and-eq-true_iff}
use native.Mathlib.Nat.{mul_assoc, lt_of_lt_of_le, mul-lt-mul_of_pos_right}
use native.Mathlib.Omega.{arith}
use lib.Dec.{T, ltb, eqb, lit<, lit≤}
use lib.IntN.{ℤ}
use lib.Pow.{pow_pos}
use lib.Ieee.{Float, nan, inf, fin, binary32, round, to_bits, of_bits, is_nan, fits}
use lib.Ieee.Bits.{nan_bits_is, nan_bits_above, of_bits-to_bits, to_bits-lt}
use lib.Ieee.Exact.{HasValue, round_exact}
use lib.Ieee.Fits.{round-fits}
use borrow.Author.Tests.{eqb-true, eqb-false, ltb-false, lt-ltb, ne_eqb}
use Rattle.format.specs.Bytes.{absolute, negative, finite, over255, over256}

-- ---- colours

below : ℕ → (ℕ → Bool) → Bool
below zero p = true
below (suc n) p = p n && below n p

below_at : (n : ℕ) (p : ℕ → Bool) → below n p ≡ true → (k : ℕ) → k < n → p k ≡ true
unfolding below
below_at zero p e k h = absurd (omega arith)
below_at (suc n) p e k h =
    let both = (and-eq-true_iff (p n) (below n p)).0 e in
    by (eqb k n) refl both.0 (λ less. below_at n p both.1 k less)
  where
    by : (x : Bool) → eqb k n ≡ x → p n ≡ true → (k < n → p k ≡ true) → p k ≡ true
    by true q here less = ap p (eqb-true k n q) ∙ here
    by false q here less = less (omega (arith, eqb-false k n q))

colours : below 256 (λ b. finite (over255 b)) ≡ true
unfolding below finite over255
colours = refl

pub colour_finite : (b : ℕ) → b < 256 → finite (over255 b) ≡ true
colour_finite b few = below_at 256 (λ b. finite (over255 b)) colours b few

-- ---- levels

no_infinity : (x : Float) (s t : Bool) (a c : ℕ) → HasValue x s a c → x ≡ inf t → ⊥
no_infinity nan s t a c v e = v
no_infinity (inf u) s t a c v e = v
no_infinity (fin u m k) s t a c v e = let z : ◌≡◌ {A = ℕ} 0 1 = cc in omega arith

no_nan : (x : Float) (s : Bool) (a c : ℕ) → HasValue x s a c → is_nan x ≡ false
unfolding is_nan
no_nan nan s a c v = absurd v
no_nan (inf u) s a c v = refl
no_nan (fin u m k) s a c v = refl

value_finite : (x : Float) (s : Bool) (a c : ℕ) → T (fits binary32 x) → HasValue x s a c → finite (to_bits binary32 x) ≡ true
unfolding finite of_bits
value_finite x s a c good v =
    let b : ℕ = to_bits binary32 x in
    let back : of_bits binary32 b ≡ x = of_bits-to_bits binary32 x good in
    let narrow : b < 2 ^ 32 = to_bits-lt binary32 x good in
    let number : ltb 2139095040 (b % 2147483648) ≡ false = sym (nan_bits_above binary32 b) ∙ nan_bits_is binary32 b ∙ ap is_nan back ∙ no_nan x s a c v in
    let plus : b ≡ 2139095040 → ⊥ = λ e. no_infinity x s false a c v (sym back ∙ ap (of_bits binary32) e) in
    let minus : b ≡ 4286578688 → ⊥ = λ e. no_infinity x s true a c v (sym back ∙ ap (of_bits binary32) e) in
    let exponent : b / 2 ^ 23 % 256 ≡ 255 → ⊥ = λ e. omega (arith, ltb-false 2139095040 (b % 2147483648) number) in
    rw (lt-ltb b (2 ^ 32) narrow, ne_eqb (b / 2 ^ 23 % 256) 255 exponent)

-- n / 256 is exact
pub exact : (s : Bool) (n : ℕ) → n < 2 ^ 24 → HasValue (round binary32 s n 256) s n 256
exact s n h =
    round_exact binary32 s n 256 n 141 (lit< tt) h
    (lt_of_lt_of_le (mul-lt-mul_of_pos_right h (pow_pos 141)) (lit≤ tt))
    (sym (mul_assoc n (2 ^ 141) 256))

pub level_finite : (z : ℤ) → absolute z ≤ 32768 → finite (over256 z) ≡ true
unfolding over256
level_finite z few =
    value_finite (round binary32 (negative z) (absolute z) 256) (negative z) (absolute z) 256 (round-fits binary32 (negative z) (absolute z) 256) (exact (negative z) (absolute z) (omega arith))
