-- Part names: PART pairs are read as SURF pairs are, each type gives a polygon its own number and leaves the other, and a file with both is computed whole.
use Prim.Native.Nat.{ℕ, ◌+◌}
use Prim.Native.String.{String}
use mathlib.Core.Path.{◌≡◌, refl}
use mathlib.Core.List.{List, [], ◌∷◌, ◌++◌, map}
use mathlib.Core.Bool.{true, false}
use native.Mathlib.Omega.{arith}
use lib.Dec.{leb}
use lib.ListN.{length, length-append}
use lib.Seq.{take_at, drop_at}
use borrow.Author.Tests.{le-leb}
use Rattle.format.specs.declared.Fault.TheVariants.{ItemCut, LongIndex, SurfaceNumber, PolygonNumber}
use Rattle.format.specs.Bytes.{spelt, tag_number, number, finite, every, all, sum, joined, same, amongst}
use Rattle.format.specs.Refusals.{number_of}
use Rattle.format.specs.Items.{fine, fault, ◌and_then◌, ◌>>=◌, give, ◌or◌unless◌, whole, times, up_to, many, item, uint, float, vx, to_zero, string}
use Rattle.format.specs.Chunks.{size_of, length_of, well_formed, chunk_of, reader_of_length, link, split, chunks, unjudged}
use Rattle.format.specs.Mesh.{Polygon, polygon_of, FACE, PATCH, Mesh, missing}
use Rattle.format.specs.Bodies.{tagging, point, whole_points, points_body, name, names_after, names_body, lwo2_vertices, polygon, polygons_body, pair, pairs_type, tagging_body}
use Rattle.format.specs.Rules.{refused, gives, after, when◌read◌, judge, located, walk, kind_of, form, judged, added, standing, tagged, retag, polygons_in, mesh_of, outcome, rules}
use Rattle.format.specs.Canonical.{bytes, vx_bytes, string_bytes, chunk_bytes, polygon_bytes, pairs_of, pair_bytes, ahead, runs, unless_empty, run_chunks, surface_chunks, canonical_chunks, form_bytes, canonical}
use Rattle.format.specs.Written.{good_polygon}
use Rattle.format.specs.Worked.{digit, pairs, hex}
use Rattle.format.proofs.Tagging.{tagged_keeps}

-- ---- "PART pairs are read like SURF pairs": whatever follows the type

-- of a type of four bytes whose pairs are read
pairs_read : (type : String) → length (spelt type) ≡ 4 → pairs_type (tag_number type) ≡ true → (polygon_count name_count at : ℕ) (rest : List ℕ)
    → tagging_body polygon_count name_count at (spelt type ++ rest) ≡ (many (pair polygon_count name_count) >>= λ ps. give (tagging (tag_number type) ps)) (at + 4) rest
unfolding tagging_body uint item ◌>>=◌ ◌and_then◌
pairs_read type four kept polygon_count name_count at rest =
    let long : leb 4 (length (spelt type ++ rest)) ≡ true = le-leb 4 (length (spelt type ++ rest)) (omega (arith, four, length-append (spelt type) rest)) in
    rw (long, take_at (spelt type) rest 4 four, drop_at (spelt type) rest 4 four, kept)

pub surface_pairs : (polygon_count name_count at : ℕ) (rest : List ℕ)
    → tagging_body polygon_count name_count at (spelt "SURF" ++ rest) ≡ (many (pair polygon_count name_count) >>= λ ps. give (tagging (tag_number "SURF") ps)) (at + 4) rest
unfolding number
surface_pairs = pairs_read "SURF" refl refl

pub part_pairs : (polygon_count name_count at : ℕ) (rest : List ℕ)
    → tagging_body polygon_count name_count at (spelt "PART" ++ rest) ≡ (many (pair polygon_count name_count) >>= λ ps. give (tagging (tag_number "PART") ps)) (at + 4) rest
unfolding number
part_pairs = pairs_read "PART" refl refl

-- "with the same checks and numbers 10 and 11": where there is one polygon and one name, a pair, none, the second polygon, the second name, a polygon and a tag
-- that are cut, and a polygon in the long form; and a type that is near
pub part_pairs_judged : map (λ s. whole 0 (tagging_body 1 1) 8 (hex s))
    ("5041525400000000" ∷ "50415254" ∷ "5041525400010000" ∷ "5041525400000001" ∷ "5041525400" ∷ "50415254000000" ∷ "50415254ff0000000000" ∷ "5041525500010001" ∷ [])
    ≡ fine (tagging (tag_number "PART") ((0, 1) ∷ []))
    ∷ fine (tagging (tag_number "PART") [])
    ∷ fault PolygonNumber 12
    ∷ fault SurfaceNumber 14
    ∷ fault ItemCut 12
    ∷ fault ItemCut 14
    ∷ fault LongIndex 12
    ∷ fine (tagging (tag_number "PARU") [])
    ∷ []
unfolding digit pairs hex number all joined ◌and_then◌ ◌>>=◌ ◌or◌unless◌ whole up_to many item uint vx unjudged pair tagging_body
part_pairs_judged = refl

-- ---- each type gives its own number

pub surfaces_keep_parts : (ts : List (ℕ × ℕ)) (ps : List Polygon) → map (λ p. p.part_name) (tagged ps (tag_number "SURF") ts) ≡ map (λ p. p.part_name) ps
unfolding number
surfaces_keep_parts ts ps = tagged_keeps (λ p. p.part_name) (tag_number "SURF") (λ n p. refl) ts ps

pub parts_keep_surfaces : (ts : List (ℕ × ℕ)) (ps : List Polygon) → map (λ p. p.surface) (tagged ps (tag_number "PART") ts) ≡ map (λ p. p.surface) ps
unfolding number
parts_keep_surfaces ts ps = tagged_keeps (λ p. p.surface) (tag_number "PART") (λ n p. refl) ts ps

-- ---- a whole file

-- The names are Oak and head. Two faces: PART gives the first Oak, the second head, and the first head, which stands; then SURF gives the second Oak. A patch
-- behind them: PART gives it Oak, and does not reach the faces.
abbrev names : List ℕ
names = hex "544147530000000a4f616b00686561640000"

abbrev points : List ℕ
points = hex "504e54530000000c000000000000000000000000"

abbrev faces : List ℕ
faces = hex "504f4c530000000c464143450001000000010000"

abbrev face_surfaces : List ℕ
face_surfaces = hex "50544147000000085355524600010000"

abbrev patches : List ℕ
patches = hex "504f4c53000000085054434800010000"

abbrev patch_parts : List ℕ
patch_parts = hex "50544147000000085041525400000000"

abbrev figure_file : List ℕ
figure_file =
    hex "464f524d000000864c574f32" ++ names ++ points ++ faces ++ hex "505441470000001050415254000000000001000100000001" ++ face_surfaces ++ patches ++ patch_parts

abbrev figure : Mesh
figure = record {
  points = record { x = 0; y = 0; z = 0 } ∷ [];
  polygons = polygon_of FACE 0 2 (0 ∷ []) ∷ polygon_of FACE 1 2 (0 ∷ []) ∷ polygon_of PATCH 0 1 (0 ∷ []) ∷ [];
  names = spelt "Oak" ∷ spelt "head" ∷ [];
  surfaces = missing ∷ missing ∷ [];
}

pub figure_read : rules figure_file ≡ gives figure 0 0
unfolding digit pairs hex number finite every all sum joined same amongst ◌and_then◌ ◌>>=◌ ◌or◌unless◌ whole times up_to many item uint float vx to_zero string size_of length_of well_formed chunk_of reader_of_length link split chunks unjudged point whole_points points_body name names_after names_body lwo2_vertices polygon polygons_body pair tagging_body after when◌read◌ judge located walk kind_of form judged added standing retag polygons_in mesh_of outcome rules
figure_read = refl

-- "The canonical file has a PTAG PART for each run with a part name, after its PTAG SURF if any."
pub figure_written : canonical figure
    ≡ hex "464f524d000000824c574f32" ++ names ++ points ++ faces ++ face_surfaces ++ hex "505441470000000c504152540000000100010001" ++ patches ++ patch_parts
unfolding digit pairs hex joined bytes vx_bytes string_bytes chunk_bytes polygon_bytes pairs_of pair_bytes ahead runs unless_empty run_chunks surface_chunks canonical_chunks form_bytes canonical
figure_written = refl

-- PART before TAGS: there are no names so far
pub parts_before_names : rules (hex "464f524d000000424c574f32504e54530000000c000000000000000000000000504f4c530000000846414345000100005054414700000008504152540000000054414753000000026100")
    ≡ refused 10 62
unfolding digit pairs hex number finite every all sum joined same amongst number_of ◌and_then◌ ◌>>=◌ ◌or◌unless◌ whole times up_to many item uint float vx to_zero string size_of length_of well_formed chunk_of reader_of_length link split chunks unjudged point whole_points points_body name names_after names_body lwo2_vertices polygon polygons_body pair tagging_body after when◌read◌ judge located walk kind_of form judged added standing retag polygons_in mesh_of outcome rules
parts_before_names = refl

-- ---- "A part above the name count or 65,536 is 17."

-- of two names: the second, and a third that is not there
pub part_names_judged : map (λ n. good_polygon 1 2 (polygon_of FACE 0 n (0 ∷ []))) (0 ∷ 2 ∷ 3 ∷ []) ≡ true ∷ true ∷ false ∷ []
unfolding good_polygon every all
part_names_judged = refl
