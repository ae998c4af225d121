-- Each turn puts the tag of one pair more, and neither number of it is cut.
use Prim.Native.Nat.{◌-◌}
use lib.ListN.{length}
use Rattle.load_taggings.proofs.PutTaggings.{TagsStored}
use Rattle.load_taggings.proofs.tagging.put_pairs.Given as goal

abbrev pub invariant-loop-at : goal.invariant-loop-at
invariant-loop-at l = TagsStored l.s l.initial.at l.polygons l.names l.initial.table l.i l.index l.at l.table

abbrev pub decreases-loop-at : goal.decreases-loop-at
decreases-loop-at l = length l.s - l.at
