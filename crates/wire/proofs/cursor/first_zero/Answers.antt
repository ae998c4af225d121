-- No byte before `at` is zero.
use mathlib.Core.Path.{◌≡◌, ◌∙◌}
use Prim.Native.Nat.{◌+◌, ◌-◌}
use native.Mathlib.Omega.{arith}
use Rattle.wire.proofs.FirstZero.{amongst, after, nowhere}
use Rattle.wire.proofs.cursor.first_zero.Goals as goal

pub loop-at-init : goal.loop-at-init
loop-at-init c = record { within = omega arith; rest = omega arith }

pub returns-in-Some : goal.returns-in-Some
returns-in-Some c = amongst c.loop-at.invariant _ c.in-Some.ensures

pub loop-at-preserved : goal.loop-at-preserved
loop-at-preserved c =
    let four : c.loop-at.at + 4 - c.loop-at.at ≡ 4 = omega arith in
    after c.loop-at.invariant 4 c.loop-at-test.true (rw four at c.in_default.ensures)

pub returns-in_err-i : goal.returns-in_err-i
returns-in_err-i c = c.from_residual.ensures ∙ nowhere c.loop-at.invariant c.in_err-i.ensures

pub returns : goal.returns
returns c = amongst c.loop-at.invariant _ c.in_ok-i.ensures
