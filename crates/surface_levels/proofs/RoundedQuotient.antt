-- The machine's cast and division round a whole number over a whole constant once; by 256 nothing is rounded, and the bits are written out.
use mathlib.Core.Path.{◌≡◌, refl, sym, ap, ◌∙◌, subst}
use mathlib.Core.Bool.{Bool, true, false, not, cond}
use Prim.Native.Nat.{ℕ, zero, suc, ◌+◌, ◌-◌, ◌*◌, ◌/◌, ◌^◌, ◌≤◌, ◌<◌}
use native.Mathlib.Nat.{mul_comm, mul_assoc, mul_right_comm, mul-div_cancel, mul-pos, mul-lt-mul_of_pos_right, mul-le-mul_right, add_assoc, zero-add}
use native.Mathlib.Nat.{le_of_eq, le_trans, lt_of_lt_of_le, lt_of_not-le, not-le_of_lt, zero-lt-suc, lt_irrefl}
use native.Mathlib.Omega.{arith}
use borrow.Author.Tests.{ne_eqb}
use mir.Syntax.{w16}
use mir.Val.{SFits}
use lib.Dec.{T, ltb}
use lib.IntN.{ℤ, pos, negsuc}
use lib.Pow.{pow-add, pow_pos, pow_mono}
use lib.Ieee.{Float, nan, inf, fin, Format, binary32, up, down, size, odd, units, round, div, of_int, of_bits, to_bits, is_nan, prec, emax, low}
use lib.Ieee.Digits.{size-lt, size-le, size_reaches}
use lib.Ieee.Fits.{down_pos}
use lib.Ieee.Exact.{HasValue}
use lib.Ieee.Back.{round_whole}
use lib.Ieee.Scale.{round_same}
use Rattle.format.specs.Bytes.{negative, absolute, over255}
use Rattle.format.specs.Bytes.{over256 as bits256}
use Rattle.format.proofs.Levels.{exact}
use Rattle.surface_levels.specs.Levels.{magnitude, exact_bits, LevelOf, ColourOf}

-- the divisors, as the code writes them
abbrev f32_255 : Float
f32_255 = of_bits binary32 0x437F_0000

abbrev f32_256 : Float
f32_256 = of_bits binary32 0x4380_0000

-- the f32 nearest to the fraction
abbrev over256 : ℤ → Float
over256 z = round binary32 (negative z) (absolute z) 256

-- ---- one division rounds once
cross : (a n d b : ℕ) → a * 1 ≡ n * d → a * 1 * b ≡ n * (b * d)
cross a n d b h = ap (λ (x : ℕ). x * b) h ∙ mul_assoc n d b ∙ ap (λ (x : ℕ). n * x) (mul_comm d b)

divided : (t s : Bool) (m : ℕ) (e : ℤ) (n b : ℕ) → 0 < b → HasValue (fin t m e) s n 1 → round binary32 t (m * up e * 1) (b * down e) ≡ round binary32 s n b
divided t s m e n b B v =
    ap (λ (x : Bool). round binary32 x (m * up e * 1) (b * down e)) v.0
    ∙ round_same binary32 s (m * up e * 1) (b * down e) n b (mul-pos B (down_pos e)) B (cross (m * up e) n (down e) b v.1)

suc_not : (c : ℕ) → suc c ≡ 0 → ⊥
suc_not c h = omega arith

div_value : (x : Float) (s : Bool) (n c k : ℕ) → HasValue x s n 1 → div binary32 x (fin false (suc c) (pos k)) ≡ round binary32 s n (suc c * 2 ^ k)
unfolding div
div_value nan s n c k v = absurd v
div_value (inf t) s n c k v = absurd v
div_value (fin true m e) s n c k v = rw (ne_eqb (suc c) 0 (suc_not c)) (divided true s m e n (suc c * 2 ^ k) (mul-pos (zero-lt-suc c) (pow_pos k)) v)
div_value (fin false m e) s n c k v = rw (ne_eqb (suc c) 0 (suc_not c)) (divided false s m e n (suc c * 2 ^ k) (mul-pos (zero-lt-suc c) (pow_pos k)) v)

over : (s : Bool) (n c k : ℕ) → n ≤ 2 ^ 24 → div binary32 (round binary32 s n 1) (fin false (suc c) (pos k)) ≡ round binary32 s n (suc c * 2 ^ k)
over s n c k h = div_value (round binary32 s n 1) s n c k (round_whole binary32 s n h)

colour_is : (n : ℕ) → n < 256 → div binary32 (of_int binary32 (pos n)) f32_255 ≡ round binary32 false n 255
unfolding of_int of_bits
colour_is n h = over false n 254 0 (omega arith)

level_is : (z : ℤ) → SFits w16 z → div binary32 (of_int binary32 z) f32_256 ≡ over256 z
unfolding of_int of_bits
level_is (pos n) f = over false n 0 8 (omega (arith, f.sfits))
level_is (negsuc n) f = over true (suc n) 0 8 (omega (arith, f.sfits))

-- ---- a rounded fraction is no NaN
odd_not_nan : (d : ℕ) (s : Bool) (q k l : ℕ) → T (not (is_nan (odd d s q k l)))
unfolding odd is_nan
odd_not_nan d s zero k l = tt
odd_not_nan d s (suc q) k l = tt

units_not_nan : (f : Format) (s : Bool) (q k : ℕ) → T (not (is_nan (units f s q k)))
unfolding units is_nan
units_not_nan f s q k = go (ltb (q * 2 ^ k) (2 ^ (low f + suc (emax f))))
  where
    go : (b : Bool) → T (not (is_nan (cond b (odd (suc (prec f)) s q k (low f)) (inf s))))
    go true = odd_not_nan (suc (prec f)) s q k (low f)
    go false = tt

round_not_nan : (f : Format) (s : Bool) (num den : ℕ) → T (not (is_nan (round f s num den)))
unfolding round
round_not_nan f s num den = units_not_nan f s _ _

-- ---- n / 256 is exact, and its bits
-- the magnitude in units of the smallest value
units_of : (a n d : ℕ) → 0 < d → a * 256 ≡ n * d → a * 2 ^ 149 / d ≡ n * 2 ^ 141
units_of a n d D h =
    ap (λ (x : ℕ). x / d)
    (sym (mul_assoc a 256 (2 ^ 141)) ∙ ap (λ (x : ℕ). x * 2 ^ 141) h ∙ mul_right_comm n d (2 ^ 141))
    ∙ mul-div_cancel (n * 2 ^ 141) D

bits_value : (x : Float) (s : Bool) (n : ℕ) → HasValue x s n 256
    → to_bits binary32 x ≡ cond s (2 ^ 31) 0 + (size (n * 2 ^ 141) - 24) * 2 ^ 23 + n * 2 ^ 141 / 2 ^ (size (n * 2 ^ 141) - 24)
unfolding to_bits
bits_value nan s n v = absurd v
bits_value (inf t) s n v = absurd v
bits_value (fin t m e) s n v = rw (v.0, units_of (m * up e) n (down e) (down_pos e) v.1)

size_above : (n k : ℕ) → 2 ^ k ≤ n → k < size n
size_above n k h = lt_of_not-le (λ (g : size n ≤ k). not-le_of_lt (lt_of_lt_of_le (size-lt n) (pow_mono g)) h)

-- n * 2 ^ t has t more digits
size_shift : (n t : ℕ) → 0 < n → size (n * 2 ^ t) ≡ size n + t
size_shift n t h =
    let z = size n in
    let Z = size_above n 0 h in
    let lo : 2 ^ (z - 1 + t) ≤ n * 2 ^ t = le_trans (le_of_eq (pow-add 2 (z - 1) t)) (mul-le-mul_right (2 ^ t) (size_reaches n (z - 1) (omega arith))) in
    let hi : n * 2 ^ t < 2 ^ (z + t) = lt_of_lt_of_le (mul-lt-mul_of_pos_right (size-lt n) (pow_pos t)) (le_of_eq (sym (pow-add 2 z t))) in
    let a = size-le (n * 2 ^ t) (z + t) hi in
    let b = size_above (n * 2 ^ t) (z - 1 + t) lo in
    omega arith

kept_is : (n z : ℕ) → z ≤ 24 → n * 2 ^ 141 / 2 ^ (z + 117) ≡ n * 2 ^ (24 - z)
kept_is n z h =
    let e : 24 - z + (z + 117) ≡ 141 = omega arith in
    ap (λ (x : ℕ). n * x / 2 ^ (z + 117)) (ap (λ (x : ℕ). 2 ^ x) (sym e) ∙ pow-add 2 (24 - z) (z + 117))
    ∙ ap (λ (x : ℕ). x / 2 ^ (z + 117)) (sym (mul_assoc n (2 ^ (24 - z)) (2 ^ (z + 117))))
    ∙ mul-div_cancel (n * 2 ^ (24 - z)) (pow_pos (z + 117))

bits_are : (s : Bool) (n : ℕ) → 0 < n → n < 2 ^ 24 → to_bits binary32 (round binary32 s n 256) ≡ cond s (2 ^ 31) 0 + magnitude n
bits_are s n p h =
    let z = size n in
    let e : z + 141 - 24 ≡ z + 117 = omega arith in
    bits_value (round binary32 s n 256) s n (exact s n h)
    ∙ rw (size_shift n 141 p, e, kept_is n z (size-le n 24 h), ne_eqb n 0 (λ q. lt_irrefl 0 (subst (λ (x : ℕ). 0 < x) q p)))
    (add_assoc (cond s (2 ^ 31) 0) ((z + 117) * 2 ^ 23) (n * 2 ^ (24 - z)))

level_bits : (z : ℤ) → SFits w16 z → to_bits binary32 (over256 z) ≡ exact_bits z
unfolding to_bits round
level_bits (pos zero) f = refl
level_bits (pos (suc n)) f = bits_are false (suc n) (zero-lt-suc n) (omega (arith, f.sfits)) ∙ zero-add (magnitude (suc n))
level_bits (negsuc n) f = bits_are true (suc n) (zero-lt-suc n) (omega (arith, f.sfits))

-- ---- the two levels of the specification

pub level_of : (z : ℤ) → SFits w16 z → LevelOf z (div binary32 (of_int binary32 z) f32_256)
unfolding bits256
level_of z f = rw (level_is z f) record { has_bits = round_not_nan binary32 (negative z) (absolute z) 256; is = refl; exact = level_bits z f }

pub colour_of : (n : ℕ) → n < 256 → ColourOf n (div binary32 (of_int binary32 (pos n)) f32_255)
unfolding over255
colour_of n h = rw (colour_is n h) record { has_bits = round_not_nan binary32 false n 255; is = refl }
