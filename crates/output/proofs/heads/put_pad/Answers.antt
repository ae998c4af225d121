-- An even body has no pad, and an odd one a zero.
use Prim.Native.Nat.{◌%◌}
use mathlib.Core.Path.{◌≡◌, refl}
use native.Mathlib.Omega.{arith}
use Rattle.output.proofs.PutSoFar.{wrote_none, a_byte}
use Rattle.output.proofs.heads.put_pad.Goals as goal

pub returns-then-n-eq0 : goal.returns-then-n-eq0
returns-then-n-eq0 c = rw c.if-n-eq0.true wrote_none

pub returns : goal.returns
returns c =
    let odd : c.args.n % 2 ≡ 1 = omega (arith, c.if-n-eq0.false) in
    rw odd (a_byte wrote_none 0 (omega (arith, odd, c.requires)) refl)
