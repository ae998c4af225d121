-- Each turn puts the three words of one point, and the body holds whole points.
use Rattle.load_lists.proofs.PutPoints.{PointsStored}
use Rattle.load_lists.proofs.points.put_points.Given as goal

abbrev pub invariant-loop-i : goal.invariant-loop-i
invariant-loop-i l = PointsStored l.s l.initial.table l.m l.i l.table
