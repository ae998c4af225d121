-- What the walk over a file holds of its polygons, and what one chunk changes in it and in the two tables.
use Rattle.std.specs.Prelude.{ℕ, ◌+◌, ◌*◌, ◌≤◌, ◌≡◌, List, [], ◌++◌, map, length, drop}
use Rattle.std.proofs.Math.Option.{some}
use Rattle.format.specs.declared.Kind.{Kind}
use Rattle.format.specs.Limits.{file_limit}
use Rattle.format.specs.Items.{fine}
use Rattle.format.specs.Mesh.{Polygon, polygon_size}
use Rattle.format.specs.Bodies.{Part, point_list, name_list, polygon_list, tagging, surface, layer, skipped_chunk}
use Rattle.format.specs.Rules.{Before, start, after, count, judge, from, tagged}
use Rattle.format.specs.Promises.{Put, polygons_words, polygons_vertices}
use Rattle.load_vertices.specs.declared.Lists.{Lists}
use Rattle.load_vertices.specs.declared.Ends.{Ends}
use Rattle.load_polygon_chunks.specs.declared.polygons.Latest.{Latest}

-- ---- the parts so far

-- What the next chunk is judged by, how many points come before the latest list, the polygons of earlier POLS, and those of the latest, tagged.
pub record Held : Type 0 where
  pub before : Before
  pub base : ℕ
  pub earlier : List Polygon
  pub latest : List Polygon

abbrev pub nothing_held : Held
nothing_held = record { before = start; base = 0; earlier = []; latest = [] }

-- the latest point list ends after so many points
abbrev pub end_of : Held → ℕ
end_of h = h.base + count h.before.points

abbrev pub held_polygons : Held → List Polygon
held_polygons h = h.earlier ++ h.latest

-- one part more
unfoldable pub held_after : Held → Part → Held
held_after h (point_list ps) = record { before = after h.before (point_list ps); base = end_of h; earlier = h.earlier; latest = h.latest }
held_after h (name_list ns) = record { before = after h.before (name_list ns); base = h.base; earlier = h.earlier; latest = h.latest }
held_after h (polygon_list ps n) = record {
  before = after h.before (polygon_list ps n);
  base = h.base;
  earlier = held_polygons h;
  latest = map (from h.base) ps;
}
held_after h (tagging t ts) = record { before = h.before; base = h.base; earlier = h.earlier; latest = tagged h.latest t ts }
held_after h (surface s) = h
held_after h layer = record { before = after h.before layer; base = end_of h; earlier = held_polygons h; latest = [] }
held_after h skipped_chunk = h

-- ---- what the code keeps of them

abbrev pub nothing_latest : Latest
nothing_latest = record { lists = record { base = 0; points = 0; names = 0 }; ends = record { polygons = 0; vertices = 0 }; start = 0 }

-- a list of points after those of the lists before it
abbrev pub points_after : Lists → ℕ → Lists
points_after l n = record { base = l.base + l.points; points = n; names = l.names }

abbrev pub with_points : Latest → ℕ → Latest
with_points l n = record { lists = points_after l.lists n; ends = l.ends; start = l.start }

abbrev pub with_names : Latest → ℕ → Latest
with_names l n = record { lists = record { base = l.lists.base; points = l.lists.points; names = n }; ends = l.ends; start = l.start }

abbrev pub with_polygons : Latest → Ends → Latest
with_polygons l e = record { lists = l.lists; ends = e; start = l.ends.polygons }

abbrev pub with_layer : Latest → Latest
with_layer l = record { lists = points_after l.lists 0; ends = l.ends; start = l.ends.polygons }

-- The polygons stand at the front of the tables, which were words₀ and vertices₀. The words of the latest stand from the index `start` to `end`, and all
-- vertices before the index `last`.
pub record AllStored (earlier latest : List Polygon) (start end last : ℕ) (words₀ words vertices₀ vertices : List ℕ) : Type 0 where
  pub start_is : start ≡ length earlier * polygon_size
  pub end_is : end ≡ start + length latest * polygon_size
  pub last_is : last ≡ length (polygons_vertices (earlier ++ latest))
  pub put_words : Put words₀ 0 (polygons_words (earlier ++ latest)) words
  pub put_vertices : Put vertices₀ 0 (polygons_vertices (earlier ++ latest)) vertices
  pub kept_words : length words ≡ length words₀
  pub kept_vertices : length vertices ≡ length vertices₀

-- what is held stands in the tables, and the code's numbers say so
pub record HeldStored (h : Held) (l : Latest) (words₀ words vertices₀ vertices : List ℕ) : Type 0 where
  pub base_is : l.lists.base ≡ h.base
  pub points_are : l.lists.points ≡ count h.before.points
  pub names_are : l.lists.names ≡ count h.before.names
  pub polygons_are : length h.latest ≡ count h.before.polygons
  pub stored : AllStored h.earlier h.latest l.start l.ends.polygons l.ends.vertices words₀ words vertices₀ vertices

-- ---- one chunk

-- The chunk was judged fine, the tables have room for its polygons, and where names are listed now they are all names of the file.
pub record PartRoom (kind : Kind) (tag : ℕ) (s : List ℕ) (name_count : ℕ) (l : Latest) (words vertices : List ℕ) : Type 0 where
  pub held : Held
  pub part : Part
  pub sound : judge kind held.before tag (drop 8 s) ≡ fine part
  pub words₀ : List ℕ
  pub vertices₀ : List ℕ
  pub held_stored : HeldStored held l words₀ words vertices₀ vertices
  pub all_names : (n : ℕ) → (held_after held part).before.names ≡ some n → n ≡ name_count
  pub few : end_of (held_after held part) ≤ file_limit
  pub words_fit : length (held_polygons (held_after held part)) * polygon_size ≤ length words
  pub vertices_fit : length (polygons_vertices (held_polygons (held_after held part))) ≤ length vertices

-- whatever polygons stood in the tables, they stand there with those of the chunk
pub record PartPut (kind : Kind) (tag : ℕ) (s : List ℕ) (name_count : ℕ) (l : Latest) (words words' vertices vertices' : List ℕ) (l' : Latest) : Type 0 where
  pub put : (r : PartRoom kind tag s name_count l words vertices) → HeldStored (held_after r.held r.part) l' r.words₀ words' r.vertices₀ vertices'
