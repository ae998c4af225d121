-- The rules: a file's chunks are judged in file order, and what they contribute makes the mesh.
use Rattle.std.specs.Prelude.{ℕ, zero, suc, ◌+◌, Bool, true, false, not, ◌&&◌, ◌||◌, length, take, drop, ltb, eqb, if◌then◌else◌}
use Prim.Native.String.{String}
use mathlib.Core.List.{List, [], ◌∷◌, ◌++◌, map, foldl}
use Rattle.std.proofs.Math.Option.{Option, none, some}
use Rattle.format.specs.declared.Kind.{Kind}
use Rattle.format.specs.declared.Kind.TheVariants.{LWOB, LWO2}
use Rattle.format.specs.declared.Fault.TheVariants.{FileTooLong, NotForm, FormLength, BadHeader, OutOfOrder}
use Rattle.format.specs.Bytes.{◌is◌, number, all, sum, joined, same}
use Rattle.format.specs.Limits.{file_limit}
use Rattle.format.specs.Refusals.{number_of, place_of}
use Rattle.format.specs.Items.{Verdict, fine, fault, ◌and_then◌ as ◌>>=◌, Reader, whole}
use Rattle.format.specs.Chunks.{Chunks, finished, broken, chunk, chunks, size_of}
use Rattle.format.specs.Mesh.{Point, Polygon, polygon_of, Name, Surface, Mesh, missing}
use Rattle.format.specs.Surfaces.{record_of}
use Rattle.format.specs.Bodies.{Part, SurfaceChunk, point_list, name_list, polygon_list, tagging, surface, layer, skipped_chunk, points_body, names_body, layer_body, faces_body, patches_body, polygons_body, tagging_body, surface_body}

-- ---- one chunk

-- What a chunk is judged by besides its bytes: how long the latest point list, the latest POLS and the name list are, where there are such.
pub record Before : Type 0 where
  pub points : Option ℕ
  pub polygons : Option ℕ
  pub names : Option ℕ

abbrev pub start : Before
start = record { points = none; polygons = none; names = none }

-- LAYR: "It empties the latest point and polygon lists"
unfoldable pub after : Before → Part → Before
after b (point_list ps) = record { points = some (length ps); polygons = b.polygons; names = b.names }
after b (name_list ns) = record { points = b.points; polygons = b.polygons; names = some (length ns) }
after b (polygon_list ps n) = record { points = b.points; polygons = some (length ps); names = b.names }
after b (tagging t ts) = b
after b (surface s) = b
after b layer = record { points = none; polygons = none; names = b.names }
after b skipped_chunk = b

abbrev pub there : Option ℕ → Bool
there none = false
there (some n) = true

abbrev pub count : Option ℕ → ℕ
count none = 0
count (some n) = n

-- "then 5, then a fixed body length or PNTS's own length rules (6), then the body", which starts eight bytes after the tag
infix 8 when◌read◌
unfoldable pub when◌read◌ : Bool → Reader Part → List ℕ → Verdict Part
when◌read◌ ok r body = if ok then whole 0 r 8 body else fault OutOfOrder 0

-- a listed tag, whether its chunk may come after what stands before it, and how its body is read
pub record ListedTag : Type 0 where
  pub tag : String
  pub in_order : Before → Bool
  pub body : Before → Reader Part

infix 8 ◌if◌read◌
abbrev pub ◌if◌read◌ : String → (in_order : Before → Bool) → (body : Before → Reader Part) → ListedTag
tag if in_order read body = record { tag = tag; in_order = in_order; body = body }

-- "A tag is listed only where it is named below, by kind of file and level." At the top level these are, with what 5 asks of each. LWOB: "Each at most
-- once (5, house)"; "both PNTS and SRFS must come earlier". LWO2: "PNTS: a new latest point list each time"; "at most once (house)"; "POLS needs an earlier
-- PNTS"; "needs an earlier POLS (5)"; "List LAYR for LWO2"; "POLS with no PNTS since it, or PTAG with no POLS since it, is 5."
abbrev pub listed_tags : Kind → List ListedTag
listed_tags LWOB =
    ("PNTS" if (λ b. not (there b.points)) read (λ b. points_body LWOB))
    ∷ ("SRFS" if (λ b. not (there b.names)) read (λ b. names_body))
    ∷ ("POLS" if (λ b. there b.points && there b.names) read (λ b. faces_body (count b.points) (count b.names)))
    ∷ ("PCHS" if (λ b. there b.points && there b.names) read (λ b. patches_body (count b.points) (count b.names)))
    ∷ ("SURF" if (λ b. true) read (λ b. surface_body LWOB))
    ∷ []
listed_tags LWO2 =
    ("PNTS" if (λ b. true) read (λ b. points_body LWO2))
    ∷ ("TAGS" if (λ b. not (there b.names)) read (λ b. names_body))
    ∷ ("POLS" if (λ b. there b.points) read (λ b. polygons_body (count b.points)))
    ∷ ("PTAG" if (λ b. there b.polygons) read (λ b. tagging_body (count b.polygons) (count b.names)))
    ∷ ("SURF" if (λ b. true) read (λ b. surface_body LWO2))
    ∷ ("LAYR" if (λ b. true) read (λ b. layer_body))
    ∷ []

abbrev pub unlisted_tag : Kind → (tag : ℕ) → Bool
unlisted_tag kind t = all (λ l. not (t is l.tag)) (listed_tags kind)

-- "Unlisted tags are skipped; top-level ones are counted as skipped."
abbrev pub judged_by : List ListedTag → Before → (tag : ℕ) → List ℕ → Verdict Part
judged_by [] b t = λ body. fine skipped_chunk
judged_by (l ∷ ls) b t = if t is l.tag then when l.in_order b read l.body b else judged_by ls b t

unfoldable pub judge : Kind → Before → (tag : ℕ) → List ℕ → Verdict Part
judge kind b t = judged_by (listed_tags kind) b t

-- ---- the file

-- a fault's place in the chunk becomes its place in the file
unfoldable pub located : (top : ℕ) → Verdict Part → Verdict Part
located top (fine part) = fine part
located top (fault why at) = fault why (place_of top at)

-- a part, and the place of its chunk's tag
pub record PartAt : Type 0 where
  pub place : ℕ
  pub part : Part

-- "then chunks in file order"
unfoldable pub walk : Kind → Before → (place : ℕ) → Chunks → Verdict (List PartAt)
walk kind b place finished = fine []
walk kind b place broken = fault BadHeader (place_of place 0)
walk kind b place (chunk t body rest) = do
  part ← located place (judge kind b t body)
  parts ← walk kind (after b part) (place + size_of 4 (length body)) rest
  fine (record { place = place; part = part } ∷ parts)

-- "Order: 1, 2, 3": "file too long"; "under 12 bytes, not FORM, or type neither LWOB nor LWO2"; "FORM length is not file length less 8"
unfoldable pub kind_of : (type : ℕ) → Verdict Kind
kind_of t = if t is "LWOB" then fine LWOB else if t is "LWO2" then fine LWO2 else fault NotForm 0

unfoldable pub form : List ℕ → Verdict Kind
form s =
    if ltb file_limit (length s) then fault FileTooLong 0
    else if ltb (length s) 12 || not (number (take 4 s) is "FORM") then fault NotForm 0
    else (do
      kind ← kind_of (number (take 4 (drop 8 s)))
      if eqb (number (take 4 (drop 4 s)) + 8) (length s) then fine kind else fault FormLength 0)

unfoldable pub judged : List ℕ → Verdict (Kind × List PartAt)
judged s = do
  kind ← form s
  parts ← walk kind start 12 (chunks (drop 12 s))
  fine (kind, parts)

-- ---- the mesh that the parts of a file make

-- what a part adds to the lists and counts of the file
pub record Added : Type 0 where
  pub points : List Point
  pub names : List Name
  pub surfaces : List SurfaceChunk
  pub skipped : ℕ
  pub details : ℕ

abbrev pub nothing_added : Added
nothing_added = record { points = []; names = []; surfaces = []; skipped = 0; details = 0 }

-- "top-level ones are counted as skipped"
unfoldable pub added : Part → Added
added (point_list ps) = record { points = ps; names = []; surfaces = []; skipped = 0; details = 0 }
added (name_list ns) = record { points = []; names = ns; surfaces = []; skipped = 0; details = 0 }
added (polygon_list ps n) = record { points = []; names = []; surfaces = []; skipped = 0; details = n }
added (tagging t ts) = nothing_added
added (surface s) = record { points = []; names = []; surfaces = s ∷ []; skipped = 0; details = 0 }
added layer = nothing_added
added skipped_chunk = record { points = []; names = []; surfaces = []; skipped = 1; details = 0 }

abbrev pub points_of : Part → List Point
points_of part = (added part).points

abbrev pub names_of : Part → List Name
names_of part = (added part).names

abbrev pub surfaces_of : Part → List SurfaceChunk
surfaces_of part = (added part).surfaces

abbrev pub skipped_of : Part → ℕ
skipped_of part = (added part).skipped

abbrev pub details_of : Part → ℕ
details_of part = (added part).details

-- "the last SURF of a name stands, for the name anywhere in the file; a SURF for an unlisted name is checked and not kept": the one that stands after some
-- more, or none.
unfoldable pub standing : Name → (now : Option SurfaceChunk) → List SurfaceChunk → Option SurfaceChunk
standing n now [] = now
standing n now (s ∷ ss) = standing n (if same n s.name then some s else now) ss

-- its record: "A name with no SURF has defined 0 and LWO2's missing values."
abbrev pub record_for : Kind → Option SurfaceChunk → Surface
record_for kind none = missing
record_for kind (some s) = record_of kind s.values

-- "all polygons' point numbers, joined, counted from the file's first point"
abbrev pub from : (base : ℕ) → Polygon → Polygon
from base p = polygon_of p.kind p.surface p.part_name (map (λ v. base + v) p.vertices)

-- a polygon with the number that a tag of a type gives it: its surface number, or its "part name"
abbrev pub with_tag : (type n : ℕ) → Polygon → Polygon
with_tag type n p =
    if type is "SURF" then polygon_of p.kind n p.part_name p.vertices
    else if type is "PART" then polygon_of p.kind p.surface n p.vertices
    else p

-- "The last tag for a polygon stands (house)." #111: "and the last stands"
unfoldable pub retag : (type i n : ℕ) → List Polygon → List Polygon
retag type i n [] = []
retag type zero n (p ∷ ps) = with_tag type n p ∷ ps
retag type (suc i) n (p ∷ ps) = p ∷ retag type i n ps

abbrev pub tagged : List Polygon → (type : ℕ) → List (ℕ × ℕ) → List Polygon
tagged ps type ts = foldl (λ now t. retag type t.0 t.1 now) ps ts

-- The latest point list starts after `base` points and ends at `end`. The polygons of the latest POLS are held back for the PTAGs after it. Of a new layer both
-- lists are empty, and its points come after all points of the file so far.
unfoldable pub polygons_in : (base end : ℕ) (latest : List Polygon) → List Part → List Polygon
polygons_in base end latest [] = latest
polygons_in base end latest (point_list ps ∷ rest) = polygons_in end (end + length ps) latest rest
polygons_in base end latest (name_list ns ∷ rest) = polygons_in base end latest rest
polygons_in base end latest (polygon_list ps n ∷ rest) = latest ++ polygons_in base end (map (from base) ps) rest
polygons_in base end latest (tagging t ts ∷ rest) = polygons_in base end (tagged latest t ts) rest
polygons_in base end latest (surface s ∷ rest) = polygons_in base end latest rest
polygons_in base end latest (layer ∷ rest) = latest ++ polygons_in end end [] rest
polygons_in base end latest (skipped_chunk ∷ rest) = polygons_in base end latest rest

unfoldable pub mesh_of : Kind → List Part → Mesh
mesh_of kind parts =
    let ns = joined (map names_of parts) in
    let ss = joined (map surfaces_of parts) in
    record {
      points = joined (map points_of parts);
      polygons = polygons_in 0 0 [] parts;
      names = ns;
      surfaces = map (λ n. record_for kind (standing n none ss)) ns;
    }

-- "The rules give a file a mesh exactly when none of the file reader's refusals but 16 applies to it."
pub data Outcome : Type 0 where
  refused : (number place : ℕ) → Outcome
  gives : Mesh → (skipped details : ℕ) → Outcome

abbrev pub parts_of : List PartAt → List Part
parts_of ps = map (λ p. p.part) ps

unfoldable pub outcome : Verdict (Kind × List PartAt) → Outcome
outcome (fine f) = gives (mesh_of f.0 (parts_of f.1)) (sum (map skipped_of (parts_of f.1))) (sum (map details_of (parts_of f.1)))
outcome (fault why at) = refused (number_of why) at

unfoldable pub rules : List ℕ → Outcome
rules s = outcome (judged s)
