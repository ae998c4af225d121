-- Each turn puts the tag of one pair more, and neither number of it is cut.
use borrow.Author.Rules.{rules}
use native.Mathlib.Omega.{arith}
use Rattle.wire.proofs.ReadAgain.{never}
use Rattle.wire.proofs.Items.{u2_small}
use Rattle.load_taggings.proofs.PutTaggings.{tags_begin, polygon_fine, tag_fine, stored, tags_turn, tags_end}
use Rattle.load_taggings.proofs.tagging.put_pairs.Goals as goal

pub loop-at-init : goal.loop-at-init
loop-at-init c = tags_begin c.requires

pub shape_of-table-in_default : goal.shape_of-table-in_default
shape_of-table-in_default c = c.loop-at.invariant.kept

pub returns-in_default : goal.returns-in_default
returns-in_default c =
    absurd (never (polygon_fine c.loop-at.invariant c.loop-at-test.true) c.in_default.ensures.says)

pub shape_of-table-in_default-u2 : goal.shape_of-table-in_default-u2
shape_of-table-in_default-u2 c = c.loop-at.invariant.kept

pub returns-in_default-u2 : goal.returns-in_default-u2
returns-in_default-u2 c =
    absurd (never (tag_fine c.loop-at.invariant c.loop-at-test.true c.in-Ok.ensures)
    c.in_default-u2.ensures.says)

pub overflow_add-table : goal.overflow_add-table
overflow_add-table c =
    record { fits = omega (arith, u2_small c.type_inv.s c.in-Ok-u2.ensures) }

pub bounds-table-i : goal.bounds-table-i
bounds-table-i c =
    let y = stored c.loop-at.invariant c.loop-at-test.true c.in-Ok.ensures in
    search (rules, y)

pub loop-at-smaller : goal.loop-at-smaller
loop-at-smaller c =
    let v = c.in-Ok.ensures in
    let w = c.in-Ok-u2.ensures in
    omega (arith, v.moves, w.moves, c.loop-at-test.true)

pub loop-at-preserved : goal.loop-at-preserved
loop-at-preserved c =
    tags_turn c.loop-at.invariant c.loop-at-test.true c.in-Ok.ensures c.in-Ok-u2.ensures

pub shape_of-table : goal.shape_of-table
shape_of-table c = c.loop-at.invariant.kept

pub returns : goal.returns
returns c = tags_end c.loop-at.invariant c.loop-at-test.false
