-- "Worked by hand": "Proved as one table with a single statement". Every case is computed.
use Rattle.std.specs.Prelude.{ℕ, ◌+◌, ◌-◌, ◌*◌, ◌≡◌, refl, Bool, true, List, [], ◌∷◌, ◌++◌, map, length, leb, if◌then◌else◌}
use Prim.Native.String.{String}
use Rattle.format.specs.declared.Kind.TheVariants.{LWOB}
use Rattle.format.specs.Bytes.{absolute, negative, spelt, number, tag_number, finite, over255, over256, every, all, sum, joined, same, amongst}
use Rattle.format.specs.Refusals.{number_of}
use Rattle.format.specs.Items.{Verdict, fine, fault, Got, ◌and_then◌, ◌>>=◌, ◌or◌unless◌, whole, times, up_to, many, item, uint, i2, float, vx, to_zero, string}
use Rattle.format.specs.Chunks.{size_of, length_of, well_formed, chunk_of, reader_of_length, link, split, chunks, sub, unjudged}
use Rattle.format.specs.Mesh.{Mesh, polygon_of, FACE, missing}
use Rattle.format.specs.Surfaces.{lwob_value, lwo2_value, attribute, block_header, block, held, nested, last_of, record_of}
use Rattle.format.specs.Bodies.{point, whole_points, points_body, name, names_after, names_body, lwob_vertices, detail, details, details_after, face, faces_body, patch, patches_body, lwo2_vertices, polygon, polygons_body, pair, tagging_body, surface_strings, surface_body}
use Rattle.format.specs.Rules.{Outcome, refused, gives, after, when◌read◌, judge, located, walk, kind_of, form, judged, added, standing, retag, polygons_in, mesh_of, outcome, rules}
use Rattle.format.specs.Canonical.{bytes, vx_bytes, string_bytes, chunk_bytes, polygon_bytes, pairs_of, pair_bytes, level_bytes, surface_bytes, ahead, runs, unless_empty, run_chunks, surface_chunks, canonical_chunks, form_bytes, canonical}

-- bytes, as the table writes them
unfoldable pub digit : ℕ → ℕ
digit c = if leb 97 c then c - 87 else c - 48

unfoldable pub pairs : List ℕ → List ℕ
pairs [] = []
pairs (a ∷ []) = []
pairs (a ∷ b ∷ s) = (digit a * 16 + digit b) ∷ pairs s

unfoldable pub hex : String → List ℕ
hex s = pairs (spelt s)

-- what a case is about, and what it gives
data Input : Type 0 where
  file vx_item surface_item lumi_body name_item : List ℕ → Input
  mesh : Mesh → Input

data Result : Type 0 where
  file_gives : Outcome → Result
  item_gives : (value size : ℕ) → Result
  item_refused : (number : ℕ) → Result
  surface_gives : (number : ℕ) (details_follow : Bool) → Result
  level_gives : (bits : ℕ) → Result
  written_as : List ℕ → Result

result : {A : Type 0} → (A → ℕ → Result) → Verdict (Got A) → Result
result f (fine g) = f g.value g.next
result f (fault why at) = item_refused (number_of why)

run : Input → Result
run (file s) = file_gives (rules s)
run (vx_item s) = result item_gives (vx 0 s)
run (surface_item s) = result (λ z size. surface_gives (absolute z) (negative z)) (i2 0 s)
run (lumi_body s) = result (λ vs size. level_gives (record_of LWOB vs).luminosity) (lwob_value (tag_number "LUMI") 0 s)
run (name_item s) = result (λ n size. item_gives (length n) size) (string 0 s)
run (mesh m) = written_as (canonical m)

nothing : Mesh
nothing = record { points = []; polygons = []; names = []; surfaces = [] }

unfoldable pub case_l : List ℕ
case_l =
    hex "464f524d000000604c574f32"
    ++ hex "54414753000000044f616b00"
    ++ hex "504e545300000024000000000000000000000000"
    ++ hex "3f8000000000000000000000000000004000000000000000"
    ++ hex "504f4c530000000c464143450003000000010002"
    ++ hex "50544147000000085355524600000000"

mesh_l : Mesh
mesh_l = record {
  points = record { x = 0; y = 0; z = 0 } ∷ record { x = 0x3f80_0000; y = 0; z = 0 } ∷ record { x = 0; y = 0x4000_0000; z = 0 } ∷ [];
  polygons = polygon_of FACE 1 0 (0 ∷ 1 ∷ 2 ∷ []) ∷ [];
  names = spelt "Oak" ∷ [];
  surfaces = missing ∷ [];
}

-- The cases a to l in order, e with #107's refusal, and that the file of l is "Canonical too"; then for #101 what starts at the place that is told: a number that
-- is not there, at the file's end, an index that is cut, the later of two equal names, a name without its pad, a sub-chunk's header with a bad pad, one with bytes
-- left over, SIDE's value, and the header of a BLOK that begins otherwise.
table : List (Input × Result)
table =
    (file (hex "464f524d000000044c574f32"), file_gives (gives nothing 0 0))
    ∷ (file (hex "464f524d000000054c574f32"), file_gives (refused 3 0))
    ∷ (vx_item (hex "feff"), item_gives 65279 2)
    ∷ (vx_item (hex "ff00ff00"), item_gives 65280 4)
    ∷ (vx_item (hex "ff000005"), item_refused 22)
    ∷ (vx_item (hex "ff00"), item_refused 19)
    ∷ (surface_item (hex "8000"), surface_gives 32768 true)
    ∷ (lumi_body (hex "0080"), level_gives 0x3f00_0000)
    ∷ (lumi_body (hex "ff80"), level_gives 0xbf00_0000)
    ∷ (name_item (hex "4f616b00"), item_gives 3 4)
    ∷ (file (hex "464f524d0000001a4c574f32504e54530000000d0000000000000000000000000000"), file_gives (refused 6 12))
    ∷ (file case_l, file_gives (gives mesh_l 0 0))
    ∷ (mesh mesh_l, written_as case_l)
    ∷ (file (hex "464f524d000000264c574f32504e54530000000c000000000000000000000000504f4c5300000006464143450001"), file_gives (refused 19 46))
    ∷ (file (hex "464f524d0000002a4c574f32504e54530000000c000000000000000000000000504f4c5300000009464143450001ff000000"), file_gives (refused 19 46))
    ∷ (file (hex "464f524d000000104c574f32544147530000000461006100"), file_gives (refused 13 22))
    ∷ (file (hex "464f524d000000124c574f325441475300000006610061620078"), file_gives (refused 20 22))
    ∷ (file (hex "464f524d000000184c574f32535552460000000c61000000474c4f5300017879"), file_gives (refused 4 24))
    ∷ (file (hex "464f524d0000001e4c574f325355524600000012610000004449464600080000000000000000"), file_gives (refused 6 24))
    ∷ (file (hex "464f524d000000184c574f32535552460000000c610000005349444500020002"), file_gives (refused 15 30))
    ∷ (file (hex "464f524d0000001c4c574f32535552460000001061000000424c4f4b0006544d41500000"), file_gives (refused 15 24))
    ∷ []

worked : map (λ c. run c.0) table ≡ map (λ c. c.1) table
unfolding digit pairs hex result run nothing case_l mesh_l table number finite over255 over256 every all sum joined same amongst number_of ◌and_then◌ ◌>>=◌ ◌or◌unless◌ whole times up_to many item uint i2 float vx to_zero string size_of length_of well_formed chunk_of reader_of_length link split chunks sub unjudged lwob_value lwo2_value attribute block_header block held nested last_of record_of point whole_points points_body name names_after names_body lwob_vertices detail details details_after face faces_body patch patches_body lwo2_vertices polygon polygons_body pair tagging_body surface_strings surface_body after when◌read◌ judge located walk kind_of form judged added standing retag polygons_in mesh_of outcome rules bytes vx_bytes string_bytes chunk_bytes polygon_bytes pairs_of pair_bytes level_bytes surface_bytes ahead runs unless_empty run_chunks surface_chunks canonical_chunks form_bytes canonical
worked = refl
