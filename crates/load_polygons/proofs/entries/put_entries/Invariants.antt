-- Each turn puts one entry more, after those before it in both tables.
use Prim.Native.Nat.{◌-◌}
use lib.ListN.{length}
use Rattle.load_polygons.proofs.PutEntries.{EntriesStored}
use Rattle.load_polygons.proofs.entries.put_entries.Given as goal

abbrev pub invariant-loop-at : goal.invariant-loop-at
invariant-loop-at g l = EntriesStored (g.L.Loaded.layout l.layout) l.lists l.initial.ends l.s l.initial.at l.initial.polygons l.initial.vertices l.polygons l.vertices l.at l.ends

abbrev pub decreases-loop-at : goal.decreases-loop-at
decreases-loop-at g l = length l.s - l.at
