-- The points of the chunks that were passed stand in the table, and each turn puts those of one chunk behind them (`PointsWalk`).
use Rattle.load_lists.proofs.PointsWalk.{begin, end, never_bad, chunk_room, turn}
use Rattle.load_lists.proofs.points.fill_points.Goals as goal

pub loop-at-init : goal.loop-at-init
loop-at-init c = begin c.requires

pub returns-in_default : goal.returns-in_default
returns-in_default c = absurd (never_bad c.loop-at.invariant c.loop-at-test.true c.in_default.ensures)

pub put_chunk-m-requires : goal.put_chunk-m-requires
put_chunk-m-requires c = chunk_room c.loop-at.invariant c.loop-at-test.true c.in-Ok.ensures

pub loop-at-preserved : goal.loop-at-preserved
loop-at-preserved c = turn c.loop-at.invariant c.loop-at-test.true c.in-Ok.ensures c.put_chunk-m.ensures

pub returns : goal.returns
returns c = end c.loop-at.invariant c.loop-at-test.false
