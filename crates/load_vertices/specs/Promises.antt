-- What the vertices of a polygon, and one polygon, put into the tables of polygons and of vertices.
use Rattle.std.specs.Prelude.{ℕ, ◌+◌, ◌*◌, ◌^◌, ◌≤◌, ◌≡◌, List, map, length, drop}
use Rattle.format.specs.Bytes.{absolute}
use Rattle.format.specs.Items.{Reader, ◌>>=◌, give, times, i2}
use Rattle.format.specs.Mesh.{polygon_of, Polygon, polygon_words, polygon_size}
use Rattle.format.specs.Bodies.{vertex, lwob_vertices}
use Rattle.format.specs.Rules.{from}
use Rattle.format.specs.Promises.{got, itself, taking, Says, Keeps, ReadsAt, Succeeds, Put}
use Rattle.wire.specs.declared.cursor.SignedSurface.{SignedSurface}
use Rattle.wire.specs.Promises.{signed_surface_of}
use Rattle.load_vertices.specs.declared.Lists.{Lists}
use Rattle.load_vertices.specs.declared.Ends.{Ends}
use Rattle.load_vertices.specs.declared.PolygonStored.{PolygonStored}

-- ---- vertices

-- vertices counted from the file's first point, where the latest points start after `base` others
abbrev pub above : (base : ℕ) → List ℕ → List ℕ
above base vs = map (λ v. base + v) vs

-- the n vertices at a place, an item each, are fine, and the table has room for them
pub record VerticesRoom (item : Reader ℕ) (n points base : ℕ) (s : List ℕ) (at : ℕ) (table : List ℕ) (m : ℕ) : Type 0 where
  pub sound : Succeeds (times n (vertex item points) at (drop at s))
  pub room : m + n ≤ length table
  pub small : base + points ≤ 2 ^ 32

-- they are read up to the place `next`, and stand in the table from the index m on
pub record VerticesPut (item : Reader ℕ) (n points base : ℕ) (s : List ℕ) (at : ℕ) (table : List ℕ) (m : ℕ) (table' : List ℕ) (next : ℕ) : Type 0 where
  pub vertices : List ℕ
  pub reads : ReadsAt (times n (vertex item points)) (taking (n * 2)) s at (got s vertices next)
  pub put : Put table m (above base vertices) table'

-- ---- one polygon

-- the entry at a place is fine, and the tables have room for the polygon that it holds
pub record EntryRoom {A : Type 0} (r : Reader A) (held : A → Polygon) (l : Lists) (e : Ends) (s : List ℕ) (at : ℕ) (words vertices : List ℕ) : Type 0 where
  pub sound : Succeeds (r at (drop at s))
  pub words_fit : e.polygons + polygon_size ≤ length words
  pub vertices_fit : e.vertices + length (held sound.value.value).vertices ≤ length vertices
  pub small : l.base + l.points ≤ 2 ^ 32

-- it is read up to the place `next`, and its words and its vertices, so many, stand in the tables where those before it ended
pub record EntryPut {A : Type 0} (r : Reader A) (held : A → Polygon) (l : Lists) (e : Ends) (s : List ℕ) (at : ℕ) (words words' vertices vertices' : List ℕ)
    (next many : ℕ) : Type 0 where
  pub entry : A
  pub reads : ReadsAt r (taking 2) s at (got s entry next)
  pub count : many ≡ length (held entry).vertices
  pub put_words : Put words e.polygons (polygon_words (from l.base (held entry))) words'
  pub put_vertices : Put vertices e.vertices (from l.base (held entry)).vertices vertices'

-- what every polygon of an LWOB file starts with, whatever its surface number is judged by
unfoldable pub lwob_entry : (point_count kind : ℕ) → Reader Polygon
lwob_entry point_count kind = do
  vs ← lwob_vertices point_count
  z ← i2
  give (polygon_of kind (absolute z) 0 vs)

-- It is put, with its vertices up to the place `end`, and its surface number after them.
pub record LwobEntryPut (kind : ℕ) (l : Lists) (e : Ends) (s : List ℕ) (at : ℕ) (words words' vertices vertices' : List ℕ)
    (answer : PolygonStored × SignedSurface) : Type 0 where
  pub put : EntryPut (lwob_entry l.points kind) itself l e s at words words' vertices vertices' answer.0.next.at answer.0.vertices
  pub end : ℕ
  pub run : Says (lwob_vertices l.points) itself s at (got s put.entry.vertices end)
  pub sign : Keeps i2 signed_surface_of (taking 2) s end (got s answer.1 answer.0.next.at)
  pub made : put.entry ≡ polygon_of kind answer.1.number 0 put.entry.vertices
