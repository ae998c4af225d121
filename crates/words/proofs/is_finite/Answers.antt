-- A u32 has 32 bits, so that the test of its exponent alone decides.
use Prim.Native.Nat.{◌<◌, ◌^◌}
use borrow.Author.Tests.{lt-ltb}
use native.Mathlib.Omega.{arith}
use Rattle.format.specs.Bytes.{finite}
use Rattle.words.proofs.is_finite.Goals as goal

pub returns : goal.returns
unfolding finite
returns c = let few : c.args.bits < 2 ^ 32 = omega arith in rw (lt-ltb _ _ few)
