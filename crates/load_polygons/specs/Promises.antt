-- What the polygons of a body that is fine put into the tables of polygons and of vertices.
use Rattle.std.specs.Prelude.{ℕ, ◌+◌, ◌*◌, ◌^◌, ◌≤◌, ◌≡◌, List, map, length, drop}
use Rattle.format.specs.Items.{fine, Reader, whole}
use Rattle.format.specs.Mesh.{Polygon, polygon_size}
use Rattle.format.specs.Bodies.{Part, polygon_list}
use Rattle.format.specs.Rules.{from}
use Rattle.format.specs.Promises.{itself, Put, polygons_words, polygons_vertices, vertex_total}
use Rattle.polygon_layouts.specs.Layouts.{Layout, EntryOf, entry_of}
use Rattle.load_vertices.specs.declared.Lists.{Lists}
use Rattle.load_vertices.specs.declared.Ends.{Ends}
use Rattle.load_vertices.specs.declared.PolygonStored.{PolygonStored}
use Rattle.load_vertices.specs.Promises.{EntryRoom, EntryPut}

-- ---- an entry

-- the polygon that an entry of a layout holds: a face stands beside the number of its details
abbrev pub held_by : (layout : Layout) → EntryOf layout → Polygon
held_by Layout.Faces = λ f. f.0
held_by Layout.Patches = itself
held_by (Layout.Polygons kind) = itself

-- the entry at a place, in a layout, is fine and has room
abbrev pub RoomIn : Layout → Lists → Ends → (s : List ℕ) (at : ℕ) (words vertices : List ℕ) → Type 0
RoomIn layout l e s at words vertices = EntryRoom (entry_of layout l.points l.names) (held_by layout) l e s at words vertices

-- it is put, and the answer says where it ends and how many vertices it has
abbrev pub PutIn : Layout → Lists → Ends → (s : List ℕ) (at : ℕ) (words words' vertices vertices' : List ℕ) → PolygonStored → Type 0
PutIn layout l e s at words words' vertices vertices' answer =
    EntryPut (entry_of layout l.points l.names) (held_by layout) l e s at words words' vertices vertices' answer.next.at answer.vertices

-- ---- a body

-- the body from the place `start` to its end is fine, and the tables have room for its polygons
pub record PolygonsRoom (body : Reader Part) (points base : ℕ) (s : List ℕ) (start : ℕ) (words : List ℕ) (i : ℕ) (vertices : List ℕ) (m : ℕ) : Type 0 where
  pub listed : List Polygon
  pub details : ℕ
  pub sound : whole 0 body start (drop start s) ≡ fine (polygon_list listed details)
  pub words_fit : i + length listed * polygon_size ≤ length words
  pub vertices_fit : m + vertex_total listed ≤ length vertices
  pub small : base + points ≤ 2 ^ 32

-- the words of the polygons stand from the index i on, and their vertices from the index m on, each up to its end
pub record PolygonsStored (base : ℕ) (ps : List Polygon) (words : List ℕ) (i : ℕ) (words' vertices : List ℕ) (m : ℕ) (vertices' : List ℕ) (ends : Ends) : Type 0 where
  pub put_words : Put words i (polygons_words (map (from base) ps)) words'
  pub put_vertices : Put vertices m (polygons_vertices (map (from base) ps)) vertices'
  pub words_end : ends.polygons ≡ i + length ps * polygon_size
  pub vertices_end : ends.vertices ≡ m + vertex_total ps

-- they do, whatever polygons the specification says that the body holds
pub record PolygonsPut (body : Reader Part) (base : ℕ) (s : List ℕ) (start : ℕ) (words : List ℕ) (i : ℕ) (words' vertices : List ℕ) (m : ℕ)
    (vertices' : List ℕ) (ends : Ends) : Type 0 where
  pub put : (ps : List Polygon) (n : ℕ) → whole 0 body start (drop start s) ≡ fine (polygon_list ps n)
      → PolygonsStored base ps words i words' vertices m vertices' ends

-- both, by the lists and the ends that the code is given
abbrev pub BodyRoom : (body : Reader Part) → Lists → Ends → (s : List ℕ) (start : ℕ) (words vertices : List ℕ) → Type 0
BodyRoom body l e s start words vertices = PolygonsRoom body l.points l.base s start words e.polygons vertices e.vertices

abbrev pub BodyPut : (body : Reader Part) → Lists → Ends → (s : List ℕ) (start : ℕ) (words words' vertices vertices' : List ℕ) → Ends → Type 0
BodyPut body l e s start words words' vertices vertices' ends =
    PolygonsPut body l.base s start words e.polygons words' vertices e.vertices vertices' ends
