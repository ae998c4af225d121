-- The points of the chunks that were passed stand in the table, and each turn puts those of one chunk behind them (`PointsWalk`).
use Prim.Native.Nat.{◌-◌}
use lib.ListN.{length}
use Rattle.load_lists.proofs.PointsWalk.{PointsPutTo}
use Rattle.load_lists.proofs.points.fill_points.Given as goal

abbrev pub invariant-loop-at : goal.invariant-loop-at
invariant-loop-at l = PointsPutTo l.kind l.file l.initial.table l.at l.m l.table

abbrev pub decreases-loop-at : goal.decreases-loop-at
decreases-loop-at l = length l.file - l.at
