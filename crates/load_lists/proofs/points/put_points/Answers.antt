-- Each turn puts the three words of one point, and the body holds whole points.
use Rattle.load_lists.proofs.PointWords.{words_fit}
use Rattle.load_lists.proofs.PutPoints.{points_begin, x_fits, y_fits, z_fits, point_turn, points_end}
use Rattle.load_lists.proofs.points.put_points.Goals as goal

pub loop-i-init : goal.loop-i-init
loop-i-init c = points_begin _ _ _ (words_fit c.requires)

pub bounds-table-to : goal.bounds-table-to
bounds-table-to c = x_fits c.loop-i.invariant (rw c.left-n.ensures at c.loop-i-test.true)

pub bounds-table-to-in-loop-i : goal.bounds-table-to-in-loop-i
bounds-table-to-in-loop-i c = y_fits c.loop-i.invariant (rw c.left-n.ensures at c.loop-i-test.true) _

pub bounds-table-to-in-loop-i-2 : goal.bounds-table-to-in-loop-i-2
bounds-table-to-in-loop-i-2 c = z_fits c.loop-i.invariant (rw c.left-n.ensures at c.loop-i-test.true) _ _

pub loop-i-preserved : goal.loop-i-preserved
loop-i-preserved c =
    point_turn c.loop-i.invariant (rw c.left-n.ensures at c.loop-i-test.true) _ _ _ c.word.ensures c.word-in-loop-i.ensures c.word-in-loop-i-2.ensures

pub returns : goal.returns
returns c = points_end c.loop-i.invariant (rw c.left-n.ensures at c.loop-i-test.false)
