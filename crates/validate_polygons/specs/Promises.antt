-- What the answers on polygons say, in the specification's words. `s` is the lent slice, and `at` the place that was read at.
use Rattle.std.specs.Prelude.{ℕ, ◌+◌, List, length, Result, Ok, Err}
use Rattle.format.specs.Items.{Verdict, fault, Got}
use Rattle.format.specs.Mesh.{Polygon}
use Rattle.format.specs.Bodies.{Part}
use Rattle.format.specs.Rules.{details_of}
use Rattle.format.specs.Promises.{got, polygons_listed, vertex_total}
use Rattle.polygon_layouts.specs.Layouts.{Layout, EntryOf}
use Rattle.wire.specs.declared.Refusal.{Refusal}
use Rattle.validate_polygons.specs.declared.entries.Entry.{Entry}
use Rattle.validate_polygons.specs.declared.entries.Sizes.{Sizes}

-- how many vertices and details an entry has
abbrev pub face_sizes : Polygon × ℕ → ℕ × ℕ
face_sizes f = (length f.0.vertices, f.1)

abbrev pub polygon_sizes : Polygon → ℕ × ℕ
polygon_sizes p = (length p.vertices, 0)

-- bytes that it takes at least
abbrev pub entry_bytes : ℕ × ℕ → ℕ
entry_bytes z = 2 + (z.0 + z.1)

abbrev pub entry_as : List ℕ → Result Entry Refusal → Verdict (Got (ℕ × ℕ))
entry_as s (Ok e) = got s (e.vertices, e.details) e.next.at
entry_as s (Err f) = fault f.why f.at

abbrev pub entry_sizes : (l : Layout) → EntryOf l → ℕ × ℕ
entry_sizes Layout.Faces = face_sizes
entry_sizes Layout.Patches = polygon_sizes
entry_sizes (Layout.Polygons kind) = polygon_sizes

-- how many polygons, vertices and details a part lists
unfoldable pub sizes_of : Part → Sizes
sizes_of part = record { polygons = length (polygons_listed part); vertices = vertex_total (polygons_listed part); details = details_of part }
