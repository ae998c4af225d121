-- The records start as those of names with no SURF, and the SURFs are put in their order (`FileRecords`).
use mathlib.Core.Path.{sym}
use lib.Seq.{length-take-le}
use Rattle.load_surfaces.proofs.FileRecords.{few, listed_room, all_stored}
use Rattle.load_surfaces.proofs.records.fill_records.Goals as goal

pub put_missing-requires : goal.put_missing-requires
put_missing-requires c = c.requires.fits

pub slice_bounds-put_surfaces-end : goal.slice_bounds-put_surfaces-end
slice_bounds-put_surfaces-end c = sym (length-take-le _ _ (few c.requires))

pub put_surfaces-requires-clause-succeeds : goal.put_surfaces-requires-clause-succeeds
put_surfaces-requires-clause-succeeds c = record { value = c.requires.parts; is = c.requires.sound }

pub put_surfaces-requires-clause-listed_room : goal.put_surfaces-requires-clause-listed_room
put_surfaces-requires-clause-listed_room c = listed_room c.requires c.put_missing.ensures c.put_missing.auto.table

pub returns : goal.returns
returns c = all_stored c.requires c.put_missing.ensures c.put_surfaces.ensures
