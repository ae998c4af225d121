-- A walk over one word of the polygons: those that are left decide, as long as each so far was 0.
use mathlib.Core.Path.{refl}
use native.Mathlib.Omega.{arith}
use borrow.Author.Tests.{eq-eqb, ne_eqb}
use Rattle.mesh.proofs.AllPass as all_pass
use Rattle.mesh.proofs.ColumnWalk.{here, turn, end}
use Rattle.write_runs.proofs.pairs.no_pairs.Goals as goal

pub returns-then-entry-index-ne0 : goal.returns-then-entry-index-ne0
returns-then-entry-index-ne0 c =
    let h = here c.loop-entry.invariant c.next.new.self _ c.in-Some.ensures.steps (omega arith) in
    all_pass.fails h refl (ne_eqb _ _ c.if-entry-index-ne0.true)

pub loop-entry-preserved : goal.loop-entry-preserved
loop-entry-preserved c =
    let w = c.loop-entry.invariant in
    let h = here w c.next.new.self _ c.in-Some.ensures.steps (omega arith) in
    turn w c.next.new.self _ c.in-Some.ensures.steps (all_pass.turn h refl (eq-eqb _ _ c.if-entry-index-ne0.false))

pub returns : goal.returns
returns c = all_pass.end (end c.loop-entry.invariant c.next.new.self c.in-None.ensures.steps) refl
