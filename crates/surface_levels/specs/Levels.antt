-- Levels as floats and as bits.
use Rattle.std.specs.Prelude.{ℕ, suc, ◌+◌, ◌-◌, ◌*◌, ◌^◌, ◌≡◌, not, T, eqb, ℤ, pos, negsuc, Float, if◌then◌else◌}
use Rattle.std.specs.Float.{binary32}
use Rattle.std.specs.Float.Ieee.{size, to_bits, is_nan}
use Rattle.format.specs.Bytes.{over255, over256}

-- a float that has bits of its own: no NaN
abbrev pub HasBits : Float → Type 0
HasBits x = T (not (is_nan x))

abbrev pub bits : Float → ℕ
bits x = to_bits binary32 x

-- The bits of n / 256 but for the sign: n has `size n` binary digits, the first of which is not stored.
abbrev pub magnitude : ℕ → ℕ
magnitude n = if eqb n 0 then 0 else (size n + 117) * 2 ^ 23 + n * 2 ^ (24 - size n)

abbrev pub exact_bits : ℤ → ℕ
exact_bits (pos n) = magnitude n
exact_bits (negsuc k) = 2 ^ 31 + magnitude (suc k)

-- "n divided by 256, which is exact": the specification's bits, and these in whole numbers
pub record LevelOf (z : ℤ) (x : Float) : Type 0 where
  pub has_bits : HasBits x
  pub is : bits x ≡ over256 z
  pub exact : bits x ≡ exact_bits z

-- "divided by 255, rounded once"
pub record ColourOf (b : ℕ) (x : Float) : Type 0 where
  pub has_bits : HasBits x
  pub is : bits x ≡ over255 b
