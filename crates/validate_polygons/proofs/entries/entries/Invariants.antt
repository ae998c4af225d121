-- Each turn reads one entry more and adds what it has to the sums, which stay below the place.
use Prim.Native.Nat.{◌-◌}
use lib.ListN.{length}
use Rattle.validate_polygons.proofs.CountedEntries.{EntriesCounted}
use Rattle.validate_polygons.proofs.entries.entries.Given as goal

abbrev pub invariant-loop-at : goal.invariant-loop-at
invariant-loop-at g l = EntriesCounted (g.L.Validated.layout l.layout) l.points l.names l.s l.initial.at l.at l.polygons l.vertices l.details

abbrev pub decreases-loop-at : goal.decreases-loop-at
decreases-loop-at g l = length l.s - l.at
