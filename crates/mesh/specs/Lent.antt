-- Entries and columns of the lent tables, and what they are to the specification.
use Rattle.std.specs.Prelude.{ℕ, List, map, take, drop}
use Rattle.format.specs.Mesh.{Polygon, Surface, polygon_size, record_size, word, surface_from}
use Rattle.format.specs.Written.{pieces, entries, polygons_from, vertex_counts}

-- the entry of n words that starts at a place
abbrev pub entry_at : (n at : ℕ) → List ℕ → List ℕ
entry_at n at ws = take n (drop at ws)

-- one word of each entry of n words, as `vertex_counts` has the second
abbrev pub column : (n index : ℕ) → List ℕ → List ℕ
column n index ws = map (word index) (entries n ws)

-- ---- what `mesh_from` makes of some of the tables

unfoldable pub mesh_polygons : (polygons vertices : List ℕ) → List Polygon
mesh_polygons ws vs = polygons_from (entries polygon_size ws) (pieces (vertex_counts ws) vs)

unfoldable pub mesh_surfaces : (records : List ℕ) → List Surface
mesh_surfaces ws = map surface_from (entries record_size ws)
