-- Each turn puts one entry more, after those before it in both tables.
use borrow.Author.Rules.{rules}
use native.Mathlib.Omega.{arith}
use Rattle.load_polygons.proofs.PutEntries.{entries_begin, entries_end, entry_room, entry_fits, entries_turn}
use Rattle.load_polygons.proofs.entries.put_entries.Goals as goal

pub loop-at-init : goal.loop-at-init
loop-at-init g c = entries_begin _ _ c.requires

pub put-put-requires : goal.put-put-requires
put-put-requires g c = entry_room c.loop-at.invariant c.loop-at-test.true

pub overflow_add-ends : goal.overflow_add-ends
overflow_add-ends g c =
    let f = c.loop-at.invariant in
    let y = entry_fits f c.loop-at-test.true c.put-put.ensures in
    search (rules, y, c.type_inv)

pub overflow_add-ends-in-loop-at : goal.overflow_add-ends-in-loop-at
overflow_add-ends-in-loop-at g c =
    let f = c.loop-at.invariant in
    let y = entry_fits f c.loop-at-test.true c.put-put.ensures in
    record { fits = omega (arith, y.1, f.kept_vertices) }

pub loop-at-smaller : goal.loop-at-smaller
loop-at-smaller g c =
    omega (arith, c.put-put.ensures.reads.moves, c.loop-at-test.true)

pub loop-at-preserved : goal.loop-at-preserved
loop-at-preserved g c =
    entries_turn c.loop-at.invariant c.loop-at-test.true c.put-put.ensures

pub returns : goal.returns
returns g c = entries_end c.loop-at.invariant c.loop-at-test.false
