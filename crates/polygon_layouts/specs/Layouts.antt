-- The entries of a layout, and what a body of them is, in the specification's words.
use Rattle.std.specs.Prelude.{ℕ, List, map}
use Rattle.format.specs.Bytes.{sum}
use Rattle.format.specs.Items.{Reader, ◌>>=◌, give, many}
use Rattle.format.specs.Mesh.{Polygon}
use Rattle.format.specs.Bodies.{Part, polygon_list, face, patch, polygon}

-- faces and patches of an LWOB file, and the polygons of an LWO2 file, which are all of one kind
pub data Layout : Type 0 where
  Faces : Layout
  Patches : Layout
  Polygons : (kind : ℕ) → Layout

-- a face stands beside the number of its details
abbrev pub EntryOf : Layout → Type 0
EntryOf Layout.Faces = Polygon × ℕ
EntryOf Layout.Patches = Polygon
EntryOf (Layout.Polygons kind) = Polygon

abbrev pub entry_of : (l : Layout) (point_count name_count : ℕ) → Reader (EntryOf l)
entry_of Layout.Faces point_count name_count = face point_count name_count
entry_of Layout.Patches point_count name_count = patch point_count name_count
entry_of (Layout.Polygons kind) point_count name_count = polygon point_count kind

abbrev pub part_of : (l : Layout) → List (EntryOf l) → Part
part_of Layout.Faces fs = polygon_list (map (λ f. f.0) fs) (sum (map (λ f. f.1) fs))
part_of Layout.Patches ps = polygon_list ps 0
part_of (Layout.Polygons kind) ps = polygon_list ps 0

-- the entries of a body, as often as it lasts
abbrev pub entries_of : (l : Layout) (point_count name_count : ℕ) → Reader Part
entries_of l point_count name_count = many (entry_of l point_count name_count) >>= (λ xs. give (part_of l xs))
