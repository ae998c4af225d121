-- A walk over one word of a run's polygons: the length of each pair is added to those before it.
use mathlib.Core.Path.{refl}
use native.Mathlib.Omega.{arith}
use Rattle.std.specs.Iterator.Adapters.{enumerate_source}
use Rattle.mesh.proofs.ColumnWalk.{here, more, turn, end}
use Rattle.mesh.specs.Polygons.{pairs_from}
use Rattle.lengths.proofs.SizeSum as sizes
use Rattle.mesh.proofs.Pairs.{pairs_more}
use Rattle.lengths.proofs.runs.pairs_length.Goals as goal

pub loop-i-preserved : goal.loop-i-preserved
loop-i-preserved c =
    let w = c.loop-i.invariant in
    let t = enumerate_source c.next.new.self in
    let step = c.in-Some.ensures.steps in
    let h = here w t _ step.0 (omega arith) in
    let pair = c.pair_length-bytes.ensures in
    turn w t _ step.0 (rw step.2 (sizes.turn h (pairs_more _ _ _) (rw step.1 at pair.size_is) (omega (arith, h.few, pair.few, more w t _ step.0))))

pub returns : goal.returns
unfolding pairs_from
returns c = let w = c.loop-i.invariant in sizes.end (end w (enumerate_source c.next.new.self) c.in-None.ensures.steps.0) refl (omega arith)
