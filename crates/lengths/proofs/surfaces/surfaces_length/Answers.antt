-- The names and their records are walked together, and the length of each is added to those before it.
use native.Mathlib.Omega.{arith}
use Rattle.mesh.proofs.NamedRecords as both
use Rattle.mesh.proofs.NamedRecords.{names_left, words_left}
use Rattle.lengths.proofs.SizeSum.{turn, end, surfaces_more, surfaces_none}
use Rattle.lengths.proofs.surfaces.surfaces_length.Goals as goal

pub loop-length-preserved : goal.loop-length-preserved
loop-length-preserved c =
    let w = c.loop-length.invariant in
    let t = c.next.new.self in
    let step = c.in-Some.ensures.steps in
    let long = both.long w.0 t _ _ step.0 step.1 in
    let next = surfaces_more c.in-Some.length.now (names_left t) c.in-Some.record.now (words_left t) step.0 step.1.1.0 long in
    (both.turn w.0 t _ _ step.0 step.1, turn w.1 next c.surface_length-bytes.ensures.size_is (omega (arith, w.1.few, c.surface_length-bytes.ensures.few, both.fewer w.0 t _ _ step.0 step.1, w.0.inside)))

pub returns : goal.returns
returns c =
    let w = c.loop-length.invariant in
    end w.1 (rw (both.end w.0 c.in-None.ensures.steps) (surfaces_none (words_left c.loop-length.length-iterator))) (omega (arith, c.requires.1))
