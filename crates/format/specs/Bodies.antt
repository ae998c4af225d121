-- Bodies: what each listed chunk holds, item by item, and what it contributes to the mesh.
use Rattle.std.specs.Prelude.{ℕ, zero, suc, ◌/◌, ◌%◌, List, [], ◌∷◌, ◌++◌, map, Bool, not, ◌&&◌, ◌||◌, length, leb, ltb, eqb, ℤ, if◌then◌else◌}
use Rattle.format.specs.declared.Kind.{Kind}
use Rattle.format.specs.declared.Kind.TheVariants.{LWOB, LWO2}
use Rattle.format.specs.declared.Container.TheVariants.{Surf}
use Rattle.format.specs.declared.Fault.TheVariants.{VertexCount, VertexNumber, SurfaceNumber, PolygonNumber, PolygonType, BadName, DetailSurface}
use Rattle.format.specs.Bytes.{◌is◌, between, absolute, negative, sum, amongst}
use Rattle.format.specs.Limits.{name_limit, lwob_vertex_limit, lwob_point_limit}
use Rattle.format.specs.Items.{Reader, ◌>>=◌, give, ◌or◌unless◌, times, up_to, many, u2, u4, i2, float, vx, string}
use Rattle.format.specs.Chunks.{reader_of_length, unjudged}
use Rattle.format.specs.Mesh.{Point, Polygon, polygon_of, FACE, PATCH, Name}
use Rattle.format.specs.Surfaces.{Value, nested, surface_depth}

-- a SURF: its name, its source, which is empty in LWOB, and the values of its sub-chunks
pub record SurfaceChunk : Type 0 where
  pub name : Name
  pub source : Name
  pub values : List Value

-- What a chunk contributes. Vertices count from the first of the latest points. A tagging has the type of its PTAG, and pairs of a polygon, counted from the
-- first of the latest POLS, and a number. Of a layer nothing is kept.
pub data Part : Type 0 where
  point_list : List Point → Part
  name_list : List Name → Part
  polygon_list : List Polygon → (details : ℕ) → Part
  tagging : (type : ℕ) → List (ℕ × ℕ) → Part
  surface : SurfaceChunk → Part
  layer : Part
  skipped_chunk : Part

-- ---- points and names

-- PNTS: "12 bytes a point"; "Points in LWOB: at most 65,536."
unfoldable pub point : Reader Point
point = do x ← float; y ← float; z ← float; give (record { x = x; y = y; z = z })

unfoldable pub whole_points : Kind → ℕ → Bool
whole_points LWOB n = eqb (n % 12) 0 && leb (n / 12) lwob_point_limit
whole_points LWO2 n = eqb (n % 12) 0

unfoldable pub points_body : Kind → Reader Part
points_body kind = reader_of_length 4 (whole_points kind) (do ps ← many point; give (point_list ps))

-- SRFS, TAGS: "strings"; 13: "name over 255 bytes, or equal to an earlier name there"
abbrev pub new_name : (earlier : List Name) → Name → Bool
new_name earlier n = leb (length n) name_limit && not (amongst n earlier)

unfoldable pub name : (earlier : List Name) → Reader Name
name earlier = string or BadName unless new_name earlier

unfoldable pub names_after : (most : ℕ) (earlier : List Name) → Reader (List Name)
names_after zero earlier at s = give [] at s
names_after (suc most) earlier at [] = give [] at []
names_after (suc most) earlier at (b ∷ s) = (do n ← name earlier; ns ← names_after most (earlier ++ (n ∷ [])); give (n ∷ ns)) at (b ∷ s)

unfoldable pub names_body : Reader Part
names_body at s = (do ns ← names_after (length s) []; give (name_list ns)) at s

-- ---- layers

-- LAYR: "number U2, flags U2, pivot of three finite floats (7), name, and a parent U2 or nothing after it (a single byte is 19)". "The mesh doesn't keep the
-- layer."
unfoldable pub layer_body : Reader Part
layer_body = do number ← u2; flags ← u2; pivot ← point; called ← string; parent ← up_to 1 u2; give layer

-- ---- polygons

abbrev pub vertex : (item : Reader ℕ) (point_count : ℕ) → Reader ℕ
vertex item point_count = item or VertexNumber unless (λ v. ltb v point_count)

-- LWOB: "count U2, vertices U2, surface I2". "Vertices per polygon: 1 to 200 in LWOB, 1 to 1,023 in LWO2." Of the part name "LWOB gives 0".
unfoldable pub lwob_vertices : (point_count : ℕ) → Reader (List ℕ)
lwob_vertices point_count = do n ← u2 or VertexCount unless between 1 lwob_vertex_limit; times n (vertex u2 point_count)

-- "Surface zero names nothing (10)."
abbrev pub in_name_list : (name_count : ℕ) → ℤ → Bool
in_name_list name_count z = between 1 name_count (absolute z)

-- "Details are checked alike and counted, and not kept (003 says to ignore them). A negative number in a detail is 14 and not 10."
unfoldable pub detail : (point_count name_count : ℕ) → Reader ℤ
detail point_count name_count = do
  vs ← lwob_vertices point_count
  i2 or DetailSurface unless (λ z. not (negative z)) or SurfaceNumber unless in_name_list name_count

-- "In POLS a negative surface means a detail count U2 and that many details follow; the absolute value is the surface number"
unfoldable pub details : (point_count name_count : ℕ) → Reader ℕ
details point_count name_count = do n ← u2; ds ← times n (detail point_count name_count); give n

unfoldable pub details_after : (point_count name_count : ℕ) → ℤ → Reader ℕ
details_after point_count name_count z = if negative z then details point_count name_count else give 0

unfoldable pub face : (point_count name_count : ℕ) → Reader (Polygon × ℕ)
face point_count name_count = do
  vs ← lwob_vertices point_count
  z ← i2 or SurfaceNumber unless in_name_list name_count
  n ← details_after point_count name_count z
  give (polygon_of FACE (absolute z) 0 vs, n)

unfoldable pub faces_body : (point_count name_count : ℕ) → Reader Part
faces_body point_count name_count = do
  fs ← many (face point_count name_count)
  give (polygon_list (map (λ f. f.0) fs) (sum (map (λ f. f.1) fs)))

-- "In PCHS a negative number is 10."
unfoldable pub patch : (point_count name_count : ℕ) → Reader Polygon
patch point_count name_count = do
  vs ← lwob_vertices point_count
  z ← i2 or SurfaceNumber unless (λ z. not (negative z) && in_name_list name_count z)
  give (polygon_of PATCH (absolute z) 0 vs)

unfoldable pub patches_body : (point_count name_count : ℕ) → Reader Part
patches_body point_count name_count = do ps ← many (patch point_count name_count); give (polygon_list ps 0)

-- LWO2: "U2 with the count in its low ten bits (high six not judged), then VX vertices into the latest PNTS"
abbrev pub count_bits : ℕ → ℕ
count_bits n = n % 1024

unfoldable pub lwo2_vertices : (point_count : ℕ) → Reader (List ℕ)
lwo2_vertices point_count = do n ← u2 or VertexCount unless (λ n. leb 1 (count_bits n)); times (count_bits n) (vertex vx point_count)

unfoldable pub polygon : (point_count kind : ℕ) → Reader Polygon
polygon point_count kind = do vs ← lwo2_vertices point_count; give (polygon_of kind 0 0 vs)

-- 12: "POLS type neither FACE nor PTCH"
abbrev pub polygon_type : ℕ → Bool
polygon_type t = t is "FACE" || t is "PTCH"

abbrev pub polygon_kind : ℕ → ℕ
polygon_kind t = if t is "FACE" then FACE else PATCH

-- "type, then entries"
unfoldable pub polygons_body : (point_count : ℕ) → Reader Part
polygons_body point_count = do
  t ← u4 or PolygonType unless polygon_type
  ps ← many (polygon point_count (polygon_kind t))
  give (polygon_list ps 0)

-- PTAG: "Type SURF: pairs of polygon (VX) and tag (U2, from 0) into the latest POLS and the TAGS so far." Surfaces and part names are numbered from 1.
unfoldable pub pair : (polygon_count name_count : ℕ) → Reader (ℕ × ℕ)
pair polygon_count name_count = do
  p ← vx or PolygonNumber unless (λ p. ltb p polygon_count)
  t ← u2 or SurfaceNumber unless (λ t. ltb t name_count)
  give (p, suc t)

-- #111: "PART pairs are read like SURF pairs, with the same checks and numbers 10 and 11"
abbrev pub pairs_type : ℕ → Bool
pairs_type t = t is "SURF" || t is "PART"

-- "Other types: four type bytes are required and the rest isn't judged."
unfoldable pub tagging_body : (polygon_count name_count : ℕ) → Reader Part
tagging_body polygon_count name_count = do
  t ← u4
  ps ← if pairs_type t then many (pair polygon_count name_count) else unjudged []
  give (tagging t ps)

-- ---- surfaces

-- LWOB: "name, then sub-chunks". LWO2: "name, source string (read, not used), sub-chunks".
unfoldable pub surface_strings : Kind → Reader (Name × Name)
surface_strings LWOB = do n ← string; give (n, [])
surface_strings LWO2 = do n ← string; source ← string; give (n, source)

unfoldable pub surface_body : Kind → Reader Part
surface_body kind = do
  called ← surface_strings kind
  vs ← nested surface_depth (Surf kind)
  give (surface (record { name = called.0; source = called.1; values = vs }))
