-- The length is judged first, so that each turn has a whole point before it.
use borrow.Author.Rules.{rules}
use mathlib.Core.Path.{◌≡◌, sym, ◌∙◌}
use Rattle.std.specs.Prelude.{Err}
use Rattle.format.specs.Bodies.{points_body}
use Rattle.format.proofs.ReaderSteps.{wrong_length, faulty}
use Rattle.validate_lists.proofs.Floats.{begin, turn, stop, end}
use Rattle.validate_lists.proofs.points.points_body.Goals as goal

pub returns-then-not-whole_points : goal.returns-then-not-whole_points
unfolding points_body
returns-then-not-whole_points c = faulty (wrong_length 4 _ _ (rw c.left-n.ensures at (sym c.whole_points.ensures ∙ c.if-not-whole_points.true)))

pub loop-i-init : goal.loop-i-init
loop-i-init c = begin

pub returns-in_err-finite_point : goal.returns-in_err-finite_point
returns-in_err-finite_point c =
    let told : c.from_residual.result ≡ Err c.in_err-finite_point.field-0.0 = search rules in
    rw told (stop _ c.left-n.ensures c.whole_points.ensures c.if-not-whole_points.false c.loop-i.invariant c.loop-i-test.true c.in_err-finite_point.ensures)

pub loop-i-preserved : goal.loop-i-preserved
loop-i-preserved c =
    turn c.args.kind c.left-n.ensures c.whole_points.ensures c.if-not-whole_points.false c.loop-i.invariant c.loop-i-test.true c.in_ok-finite_point.ensures

pub returns : goal.returns
returns c =
    end _ c.left-n.ensures c.whole_points.ensures c.if-not-whole_points.false c.loop-i.invariant c.loop-i.auto.i-end c.loop-i-test.false
