-- The words of a record are its fields, one by one, so the tests of the words are those of the surface.
use mathlib.Core.Bool.{and_assoc, and-true}
use Rattle.format.specs.Bytes.{every}
use Rattle.format.specs.Written.{good_surface}
use Rattle.mesh.proofs.Records.{words_back, levels_are}
use Rattle.good_entries.proofs.records.good_record.Goals as goal

pub returns : goal.returns
unfolding good_surface every
returns c =
    rw (words_back _ c.requires, levels_are _ c.requires, c.all_finite.ensures, c.is_missing.ensures) (simp (and_assoc, and-true))
