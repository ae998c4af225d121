-- A walk over one word of each entry: what was added so far and the sum of those that are left make the sum.
use native.Mathlib.Omega.{arith}
use Rattle.format.specs.Bytes.{sum}
use Rattle.mesh.proofs.ColumnWalk.{here, more, word_fits, turn, end}
use Rattle.mesh.proofs.columns.sum_of.Goals as goal

pub loop-entry-preserved : goal.loop-entry-preserved
unfolding sum
loop-entry-preserved c =
    let w = c.loop-entry.invariant in
    let step = c.in-Some.ensures.steps in
    let h = here w c.next.new.self _ step (omega arith) in
    let few = word_fits w c.next.new.self _ step (λ i. (c.type_inv.words i).fits) c.requires.0 in
    turn w c.next.new.self _ step (record { few = omega (arith, h.few, more w c.next.new.self _ step, few); so = omega (arith, h.so) })

pub overflow_add-total : goal.overflow_add-total
overflow_add-total c = let w = loop-entry-preserved c in omega (arith, w.left.few)

pub returns : goal.returns
unfolding sum
returns c = let h = end c.loop-entry.invariant _ c.in-None.ensures.steps in omega (arith, h.so)
