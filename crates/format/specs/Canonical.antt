-- "Canonical LWO2": the one file that a mesh is written as.
use Rattle.std.specs.Prelude.{ℕ, zero, suc, ◌+◌, ◌-◌, ◌/◌, ◌%◌, List, [], ◌∷◌, ◌++◌, map, length, replicate, ltb, eqb, if◌then◌else◌}
use Prim.Native.String.{String}
use Rattle.format.specs.Bytes.{spelt, joined}
use Rattle.format.specs.Items.{first_long, string_size}
use Rattle.format.specs.Mesh.{Point, Polygon, FACE, Surface, Name, Mesh, point_words}

-- ---- items as bytes

-- a number in so many bytes, the high byte first
unfoldable pub bytes : ℕ → ℕ → List ℕ
bytes zero n = []
bytes (suc k) n = bytes k (n / 256) ++ (n % 256 ∷ [])

-- "Shortest VX"
unfoldable pub vx_bytes : ℕ → List ℕ
vx_bytes n = if ltb n first_long then bytes 2 n else bytes 4 (0xFF00_0000 + n)

unfoldable pub string_bytes : Name → List ℕ
string_bytes n = n ++ replicate (string_size (length n) - length n) 0

unfoldable pub chunk_bytes : (width : ℕ) → String → List ℕ → List ℕ
chunk_bytes width tag body = spelt tag ++ (bytes width (length body) ++ (body ++ replicate (length body % 2) 0))

-- ---- entries as bytes

abbrev pub point_bytes : Point → List ℕ
point_bytes p = joined (map (bytes 4) (point_words p))

-- "the six high count bits are 0"
unfoldable pub polygon_bytes : Polygon → List ℕ
polygon_bytes p = bytes 2 (length p.vertices) ++ joined (map vx_bytes p.vertices)

-- the polygons of a run that have such a number, its surface or its part name, and the number, "ascending"; i is the number of the first polygon
unfoldable pub pairs_of : (number : Polygon → ℕ) → (i : ℕ) → List Polygon → List (ℕ × ℕ)
pairs_of number i [] = []
pairs_of number i (p ∷ r) = (if eqb (number p) 0 then [] else (i, number p) ∷ []) ++ pairs_of number (suc i) r

unfoldable pub pair_bytes : ℕ × ℕ → List ℕ
pair_bytes t = vx_bytes t.0 ++ bytes 2 (t.1 - 1)

-- "each envelope 0"
unfoldable pub level_bytes : String → List ℕ → List ℕ
level_bytes tag levels = chunk_bytes 2 tag (joined (map (bytes 4) levels) ++ vx_bytes 0)

-- "COLR, DIFF, LUMI, SPEC, REFL, TRAN, SIDE"
abbrev pub value_chunks : Surface → List (List ℕ)
value_chunks s =
    level_bytes "COLR" (s.red ∷ s.green ∷ s.blue ∷ [])
    ∷ level_bytes "DIFF" (s.diffuse ∷ [])
    ∷ level_bytes "LUMI" (s.luminosity ∷ [])
    ∷ level_bytes "SPEC" (s.specular ∷ [])
    ∷ level_bytes "REFL" (s.reflection ∷ [])
    ∷ level_bytes "TRAN" (s.transparency ∷ [])
    ∷ chunk_bytes 2 "SIDE" (bytes 2 s.sides)
    ∷ []

-- "empty source, COLR, DIFF, LUMI, SPEC, REFL, TRAN, SIDE"
unfoldable pub surface_bytes : Name → Surface → List ℕ
surface_bytes n s = joined (string_bytes n ∷ string_bytes [] ∷ value_chunks s)

-- ---- the chunks of the file

-- "each longest run of one kind"
unfoldable pub ahead : Polygon → List (List Polygon) → List (List Polygon)
ahead p [] = (p ∷ []) ∷ []
ahead p ([] ∷ rs) = (p ∷ []) ∷ rs
ahead p ((q ∷ r) ∷ rs) = if eqb p.kind q.kind then (p ∷ q ∷ r) ∷ rs else (p ∷ []) ∷ (q ∷ r) ∷ rs

unfoldable pub runs : List Polygon → List (List Polygon)
runs [] = []
runs (p ∷ ps) = ahead p (runs ps)

-- "Empty chunks are left out."; what stands before the entries is the type of a POLS or a PTAG
unfoldable pub unless_empty : {A : Type 0} → (tag type : String) → (A → List ℕ) → List A → List (String × List ℕ)
unless_empty tag type bytes_of [] = []
unless_empty tag type bytes_of (x ∷ xs) = (tag, spelt type ++ joined (map bytes_of (x ∷ xs))) ∷ []

abbrev pub type_of : (kind : ℕ) → String
type_of kind = if eqb kind FACE then "FACE" else "PTCH"

-- a PTAG of a type, for the polygons of a run that have the number which that type gives
abbrev pub tagging_chunk : (type : String) → (number : Polygon → ℕ) → List Polygon → List (String × List ℕ)
tagging_chunk type number run = unless_empty "PTAG" type pair_bytes (pairs_of number 0 run)

-- "a POLS and a PTAG SURF for its tagged polygons"; #111: "a PTAG PART for each run with a part name, after its PTAG SURF if any"
unfoldable pub run_chunks : List Polygon → List (String × List ℕ)
run_chunks [] = []
run_chunks (p ∷ r) =
    unless_empty "POLS" (type_of p.kind) polygon_bytes (p ∷ r)
    ++ (tagging_chunk "SURF" (λ q. q.surface) (p ∷ r)
    ++ tagging_chunk "PART" (λ q. q.part_name) (p ∷ r))

-- "then a SURF for each defined name in order"
unfoldable pub surface_chunks : List Name → List Surface → List (String × List ℕ)
surface_chunks [] ss = []
surface_chunks (n ∷ ns) [] = []
surface_chunks (n ∷ ns) (s ∷ ss) = (if eqb s.defined 1 then ("SURF", surface_bytes n s) ∷ [] else []) ++ surface_chunks ns ss

-- "TAGS, PNTS, then for each longest run of one kind a POLS and a PTAG SURF for its tagged polygons, ascending; then a SURF for each defined name in order"
unfoldable pub canonical_chunks : Mesh → List (String × List ℕ)
canonical_chunks m =
    unless_empty "TAGS" "" string_bytes m.names
    ++ (unless_empty "PNTS" "" point_bytes m.points
    ++ (joined (map run_chunks (runs m.polygons))
    ++ surface_chunks m.names m.surfaces))

unfoldable pub form_bytes : (type : String) → List ℕ → List ℕ
form_bytes type chunks = spelt "FORM" ++ (bytes 4 (4 + length chunks) ++ (spelt type ++ chunks))

abbrev pub encoded : String × List ℕ → List ℕ
encoded c = chunk_bytes 4 c.0 c.1

unfoldable pub canonical : Mesh → List ℕ
canonical m = form_bytes "LWO2" (joined (map encoded (canonical_chunks m)))
