-- The four tests of an entry, joined from the left.
use mathlib.Core.Bool.{and_assoc, and-true}
use Rattle.format.specs.Bytes.{every}
use Rattle.good_entries.proofs.polygons.good_entry.Goals as goal

pub returns : goal.returns
unfolding every
returns c = rw (c.good_tag.ensures, c.good_tag-2.ensures) (simp (and_assoc, and-true))
