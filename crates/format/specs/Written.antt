-- Which tables are a mesh, the writer's answer, and what the lent output holds after it.
use Rattle.std.specs.Prelude.{ℕ, ◌/◌, ◌%◌, List, [], ◌∷◌, ◌++◌, map, ◌≡◌, Bool, true, not, ◌&&◌, ◌||◌, length, take, drop, replicate, leb, ltb, eqb, if◌then◌else◌}
use Rattle.format.specs.Bytes.{between, finite, every, all, sum, same}
use Rattle.format.specs.Limits.{file_limit, lwo2_vertex_limit, entry_limit, tag_limit}
use Rattle.format.specs.Refusals.{no_room_number, not_mesh_number, too_long_number}
use Rattle.format.specs.Mesh.{Polygon, FACE, PATCH, Surface, Name, Mesh, missing, Tables, point_words, levels, surface_words, point_size, polygon_size, record_size, word, point_from, polygon_from, surface_from}
use Rattle.format.specs.Surfaces.{side_number}
use Rattle.format.specs.Bodies.{new_name}
use Rattle.format.specs.Answer.{over}
use Rattle.format.specs.Canonical.{canonical}

-- ---- tables taken as a mesh

-- a list cut into pieces of the given lengths, and into entries of n words
unfoldable pub pieces : {A : Type 0} → List ℕ → List A → List (List A)
pieces [] xs = []
pieces (n ∷ ns) xs = take n xs ∷ pieces ns (drop n xs)

unfoldable pub entries : ℕ → List ℕ → List (List ℕ)
entries n ws = pieces (replicate (length ws / n) n) ws

unfoldable pub polygons_from : (entries vertices : List (List ℕ)) → List Polygon
polygons_from [] vs = []
polygons_from (w ∷ ws) [] = []
polygons_from (w ∷ ws) (v ∷ vs) = polygon_from w v ∷ polygons_from ws vs

abbrev pub vertex_counts : (polygons : List ℕ) → List ℕ
vertex_counts ws = map (word 1) (entries polygon_size ws)

unfoldable pub mesh_from : Tables → Mesh
mesh_from t = record {
  points = map point_from (entries point_size t.points);
  polygons = polygons_from (entries polygon_size t.polygons) (pieces (vertex_counts t.polygons) t.vertices);
  names = pieces t.names t.name_bytes;
  surfaces = map surface_from (entries record_size t.records);
}

-- ---- 17, "not a mesh": none of these holds

-- "a table with part of an entry or over 16,777,216 entries"
unfoldable pub whole_entries : ℕ → List ℕ → Bool
whole_entries n ws = eqb (length ws % n) 0 && leb (length ws / n) entry_limit

-- "a surface above the name count or 65,536"; #111: "A part above the name count or 65,536 is 17."
abbrev pub good_tag : (name_count : ℕ) → ℕ → Bool
good_tag name_count n = leb n name_count && leb n tag_limit

-- "a kind, vertex count (1 to 1,023), vertex number, defined or sides number outside its range"
unfoldable pub good_polygon : (point_count name_count : ℕ) → Polygon → Bool
good_polygon point_count name_count p =
    every
    (between FACE PATCH p.kind
    ∷ between 1 lwo2_vertex_limit (length p.vertices)
    ∷ all (λ v. ltb v point_count) p.vertices
    ∷ good_tag name_count p.surface
    ∷ good_tag name_count p.part_name
    ∷ [])

-- "a name over 255 bytes, with a zero byte, or equal to an earlier one"
abbrev pub has_no_zero : Name → Bool
has_no_zero n = all (λ b. not (eqb b 0)) n

unfoldable pub good_names : (earlier : List Name) → List Name → Bool
good_names earlier [] = true
good_names earlier (n ∷ ns) = new_name earlier n && has_no_zero n && good_names (earlier ++ (n ∷ [])) ns

-- its "defined or sides number outside its range"; "a float not finite; an undefined record with other than the missing values, by bits"
unfoldable pub good_surface : Surface → Bool
good_surface s =
    every
    (leb s.defined 1
    ∷ side_number s.sides
    ∷ all finite (levels s)
    ∷ (eqb s.defined 1 || same (surface_words s) (surface_words missing))
    ∷ [])

-- "counts that don't agree", here of records and names
unfoldable pub good_mesh : Mesh → Bool
good_mesh m =
    every
    (eqb (length m.surfaces) (length m.names)
    ∷ all (λ p. all finite (point_words p)) m.points
    ∷ all (good_polygon (length m.points) (length m.names)) m.polygons
    ∷ good_names [] m.names
    ∷ all good_surface m.surfaces
    ∷ [])

-- "counts that don't agree", here of vertices and of name bytes
unfoldable pub is_mesh : Tables → Bool
is_mesh t =
    every
    (whole_entries point_size t.points
    ∷ whole_entries polygon_size t.polygons
    ∷ whole_entries 1 t.vertices
    ∷ whole_entries 1 t.names
    ∷ whole_entries 1 t.name_bytes
    ∷ whole_entries record_size t.records
    ∷ eqb (sum (vertex_counts t.polygons)) (length t.vertices)
    ∷ eqb (sum t.names) (length t.name_bytes)
    ∷ good_mesh (mesh_from t)
    ∷ [])

-- ---- the writer's answer: "a number, place 0 and a length: bytes written on 0, bytes needed on 16, else 0"

pub record Written : Type 0 where
  pub number : ℕ
  pub place : ℕ
  pub length : ℕ

abbrev pub says : (number length : ℕ) → Written
says number length = record { number = number; place = 0; length = length }

-- "The writer: 17, 18, 16."
unfoldable pub written : Tables → (room : ℕ) → Written
written t room =
    let n = length (canonical (mesh_from t)) in
    if not (is_mesh t) then says not_mesh_number 0 else if ltb file_limit n then says too_long_number 0 else if ltb room n then says no_room_number n else says 0 n

-- "output past that length is unchanged. Every refusal leaves every lent table or output buffer unchanged."
unfoldable pub output_after : Tables → List ℕ → List ℕ
output_after t out = if eqb (written t (length out)).number 0 then over (canonical (mesh_from t)) out else out

-- ---- the contract of a writer

-- It is lent the tables t and the output out; it answers a, and the output comes back as out'.
pub record Writes (t : Tables) (out : List ℕ) (a : Written) (out' : List ℕ) : Type 0 where
  pub answers : a ≡ written t (length out)
  pub leaves : out' ≡ output_after t out
