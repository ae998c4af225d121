-- The type is read as it was judged, and pairs follow it, which are put into the type's word, or nothing that is kept.
use native.Mathlib.Omega.{arith}
use borrow.Author.Tests.{ne_eqb}
use Rattle.format.specs.Bytes.{number}
use Rattle.load_taggings.proofs.PutTaggings.{type_never_cut, pairs_room, pairs_put, surface_word, part_word, of_others}
use Rattle.load_taggings.proofs.tagging.put_taggings.Goals as goal

pub returns-in_default : goal.returns-in_default
returns-in_default c =
    absurd (type_never_cut _ _ c.requires c.in_default.ensures)

pub put_pairs-requires : goal.put_pairs-requires
unfolding number
put_pairs-requires c =
    (pairs_room _ _ c.in-Ok.ensures (rw c.if-t-eq-SURF.true) c.requires, omega arith)

pub put_pairs-requires-then-t-eq-PART : goal.put_pairs-requires-then-t-eq-PART
unfolding number
put_pairs-requires-then-t-eq-PART c =
    (pairs_room _ _ c.in-Ok.ensures (rw c.if-t-eq-PART.true) c.requires, omega arith)

pub returns-then-t-eq-SURF : goal.returns-then-t-eq-SURF
unfolding number
returns-then-t-eq-SURF c =
    pairs_put _ _ c.in-Ok.ensures (rw c.if-t-eq-SURF.true) (rw c.if-t-eq-SURF.true surface_word) c.put_pairs.ensures

pub returns-then-t-eq-PART : goal.returns-then-t-eq-PART
unfolding number
returns-then-t-eq-PART c =
    pairs_put _ _ c.in-Ok.ensures (rw c.if-t-eq-PART.true) (rw c.if-t-eq-PART.true part_word) c.put_pairs-then-t-eq-PART.ensures

pub returns-else-t-eq-PART : goal.returns-else-t-eq-PART
unfolding number
returns-else-t-eq-PART c =
    of_others _ _ c.in-Ok.ensures (rw (ne_eqb _ _ c.if-t-eq-SURF.false, ne_eqb _ _ c.if-t-eq-PART.false))
