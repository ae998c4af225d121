-- The length is judged first, so that each turn has a whole point before it.
use Rattle.validate_lists.proofs.Floats.{PointsRead}
use Rattle.validate_lists.proofs.points.points_body.Given as goal

abbrev pub invariant-loop-i : goal.invariant-loop-i
invariant-loop-i l = PointsRead l.s l.i
