-- A table is whole where its length is; the six tests are joined from the left.
use mathlib.Core.Path.{◌∙◌}
use Rattle.format.specs.Written.{whole_entries}
use Rattle.good_mesh.specs.Tests.{whole_tables}
use Rattle.good_mesh.proofs.MeshTests.{six}
use Rattle.good_mesh.proofs.whole_tables.Goals as goal

pub returns : goal.returns
unfolding whole_tables whole_entries
returns c =
    six c.whole_entries.result c.whole_entries-2.result c.whole_entries-3.result c.whole_entries-4.result c.whole_entries-5.result c.whole_entries-6.result
    ∙ rw (c.whole_entries.ensures, c.whole_entries-2.ensures, c.whole_entries-3.ensures, c.whole_entries-4.ensures, c.whole_entries-5.ensures, c.whole_entries-6.ensures)
