-- A bit pattern that is finite has a float whose bits it is, and only a finite one is read.
use mathlib.Core.Path.{◌≡◌, subst}
use mathlib.Core.Bool.{Bool, true, not}
use mathlib.Core.List.{List}
use Prim.Native.Nat.{ℕ, ◌≤◌, ◌<◌, ◌/◌, ◌%◌, ◌^◌}
use native.Mathlib.Omega.{arith}
use lib.Dec.{T}
use lib.Ieee.{binary32, of_bits, nan_bits}
use lib.Ieee.Bits.{nan_bits_above, nan_bits_is, to_bits-of_bits}
use borrow.Author.Tests.{le-ltb}
use Rattle.std.specs.Prelude.{Ok}
use Rattle.format.specs.declared.Fault.TheVariants.{NotFinite}
use Rattle.format.specs.Bytes.{finite}
use Rattle.format.specs.Items.{u4, float}
use Rattle.format.specs.Promises.{ReadsAt, taking, got}
use Rattle.format.proofs.Facts.{finite_bits}
use Rattle.format.proofs.ReaderSteps.{was_good}
use Rattle.wire.specs.declared.cursor.Cursor.{Cursor}
use Rattle.surface_levels.specs.Levels.{HasBits, bits}
use Rattle.surface_levels.specs.Promises.{FloatAt}

no_nan : (b : ℕ) → finite b ≡ true → T (not (nan_bits binary32 b))
no_nan b e =
    let h : b / 2 ^ 23 % 256 ≡ 255 → ⊥ = (finite_bits b e).1 in
    let l : b % 2147483648 ≤ 2139095040 = omega arith in
    rw (nan_bits_above binary32 b, le-ltb 2139095040 (b % 2147483648) l) tt

has_bits : (b : ℕ) → finite b ≡ true → HasBits (of_bits binary32 b)
has_bits b e = subst (λ (t : Bool). T (not t)) (nan_bits_is binary32 b) (no_nan b e)

bits_back : (b : ℕ) → b < 2 ^ 32 → finite b ≡ true → bits (of_bits binary32 b) ≡ b
bits_back b h e = to_bits-of_bits binary32 b h (has_bits b e)

module _ {s : List ℕ} {at v : ℕ} {c : Cursor} where
  read_finite : ReadsAt float (taking 4) s at (got s v c.at) → finite v ≡ true
  unfolding float
  read_finite w = was_good u4 NotFinite finite w.says

  pub read_not_nan : ReadsAt float (taking 4) s at (got s v c.at) → T (not (nan_bits binary32 v))
  read_not_nan w = no_nan v (read_finite w)

  pub float_got : v < 2 ^ 32 → ReadsAt float (taking 4) s at (got s v c.at) → FloatAt s at (Ok (of_bits binary32 v, c))
  float_got few w = record { reads = rw (bits_back v few (read_finite w)) w; has_bits = has_bits v (read_finite w) }
