-- The bodies of the chunks of a canonical file, each read back as what it was written from.
use Rattle.std.specs.Prelude.{if◌then◌else◌}
use Prim.Native.Nat.{ℕ, zero, suc, ◌+◌, ◌-◌, ◌%◌, ◌^◌, ◌≤◌, ◌<◌}
use Prim.Native.String.{String}
use mathlib.Core.Path.{◌≡◌, refl, sym}
use mathlib.Core.List.{List, [], ◌∷◌, ◌++◌, map, append-nil, append_assoc}
use mathlib.Core.Bool.{Bool, true, false, ◌&&◌, ◌||◌, and-eq-true_iff}
use native.Mathlib.Omega.{arith}
use lib.Dec.{leb, ltb, eqb}
use lib.ListN.{length, take, drop, length-append}
use borrow.Author.Tests.{le-leb, lt-ltb, eq-eqb, ltb-true, eqb-true, eqb-false}
use Rattle.format.specs.declared.Fault.TheVariants.{VertexCount, VertexNumber, SurfaceNumber, PolygonNumber, PolygonType, BadName, SurfaceValue}
use Rattle.format.specs.Bytes.{number, spelt, finite, all, joined}
use Rattle.format.specs.Items.{Reader, ◌>>=◌, give, ◌or◌unless◌, u2, u4, uint, vx}
use Rattle.format.specs.declared.Kind.TheVariants.{LWO2}
use Rattle.format.specs.declared.Container.TheVariants.{Surf}
use Rattle.format.specs.Chunks.{sub, fixed}
use Rattle.format.specs.Mesh.{Point, point_words, point_from, Polygon, polygon_of, FACE, PATCH, Name, Surface, levels}
use Rattle.format.specs.Surfaces.{Value, value, side_number, lwo2_value, held, nested, last_of, record_of}
use Rattle.format.specs.Bodies.{Part, SurfaceChunk, point_list, name_list, polygon_list, tagging, surface, point, whole_points, points_body, new_name, name, names_after, names_body, vertex, count_bits, lwo2_vertices, polygon, polygon_type, polygon_kind, polygons_body, pair, pairs_type, tagging_body, surface_strings, surface_body}
use Rattle.format.specs.Canonical.{bytes, vx_bytes, string_bytes, point_bytes, polygon_bytes, type_of, pairs_of, pair_bytes, level_bytes, value_chunks, surface_bytes}
use Rattle.format.specs.Written.{good_polygon, has_no_zero, good_names}
use Rattle.format.proofs.Facts.{all_first, all_rest, all_part, length_each}
use Rattle.laws.proofs.Reading.{ReadsAs, Ends, ends, reads_give, reads_then, ends_then, reads_as, ends_as, reads_unless, Row, none, more, reads_times, ends_many, rows, rows_same}
use Rattle.format.proofs.CanonicalLengths.{length_bytes, length_string, length_point, length_vx}
use Rattle.laws.proofs.Items.{reads_item, reads_uint, floats, reads_floats, reads_vx, reads_string}
use Rattle.laws.proofs.GoodPolygons.{GoodTag, GoodPolygon, good_polygon_lem}
use Rattle.laws.proofs.Chunks.{is_tag, more_sub, ends_of_length}

-- ---- points

-- three finite f32
abbrev pub good_point : Point → Bool
good_point p = all finite (point_words p)

reads_point : (p : Point) → good_point p ≡ true → ReadsAs point (point_bytes p) p
unfolding point floats
reads_point p ok = rw append-nil at (reads_floats (λ ws. give (point_from ws)) (point_words p) ok reads_give)

pub ends_points : (ps : List Point) → all good_point ps ≡ true → Ends (points_body LWO2) (joined (map point_bytes ps)) (point_list ps)
unfolding points_body whole_points
ends_points ps ok =
    ends_of_length 4 (whole_points LWO2) (eq-eqb (length (joined (map point_bytes ps)) % 12) 0 (omega (arith, length_each 12 point_bytes length_point ps)))
    (ends_as point_list (ends_many (rows_same point_bytes good_point reads_point (λ p. omega (arith, length_point p)) ps ok)))

-- ---- names

pub record GoodName (earlier : List Name) (n : Name) (ns : List Name) : Type 0 where
  pub new : new_name earlier n ≡ true
  pub no_zero : has_no_zero n ≡ true
  pub rest : good_names (earlier ++ (n ∷ [])) ns ≡ true

pub good_name : (earlier : List Name) (n : Name) (ns : List Name) → good_names earlier (n ∷ ns) ≡ true → GoodName earlier n ns
unfolding good_names
good_name earlier n ns ok =
    let both = (and-eq-true_iff (new_name earlier n && has_no_zero n) (good_names (earlier ++ (n ∷ [])) ns)).0 ok in
    let first = (and-eq-true_iff (new_name earlier n) (has_no_zero n)).0 both.0 in
    record { new = first.0; no_zero = first.1; rest = both.1 }

reads_name : (earlier : List Name) (n : Name) (ns : List Name) → GoodName earlier n ns → ReadsAs (name earlier) (string_bytes n) n
unfolding name
reads_name earlier n ns g = record { here = (reads_unless BadName (new_name earlier) (reads_string n g.no_zero) g.new).here }

pub string_longer : (n : Name) → length n < length (string_bytes n)
string_longer n = omega (arith, length_string n)

names_step : {w v : List ℕ} {n : Name} {ns : List Name} (k : ℕ) (earlier : List Name) → ReadsAs (name earlier) w n → 0 < length w
    → Ends (names_after k (earlier ++ (n ∷ []))) v ns
    → Ends (names_after (suc k) earlier) (w ++ v) (n ∷ ns)
unfolding names_after
names_step {w = []} k earlier h long e = absurd (omega arith)
names_step {w = b ∷ w} k earlier h long e = record { here = (ends_then _ h (ends_as _ e)).here }

ends_names_after : (k : ℕ) (earlier ns : List Name) → good_names earlier ns ≡ true → length (joined (map string_bytes ns)) ≤ k
    → Ends (names_after k earlier) (joined (map string_bytes ns)) ns
unfolding names_after joined
ends_names_after zero earlier [] ok fits = ends reads_give
ends_names_after (suc k) earlier [] ok fits = record { here = (ends reads_give).here }
ends_names_after zero earlier (n ∷ ns) ok fits = absurd (omega (arith, length-append (string_bytes n) (joined (map string_bytes ns)), string_longer n))
ends_names_after (suc k) earlier (n ∷ ns) ok fits =
    let g = good_name earlier n ns ok in
    let less : length (joined (map string_bytes ns)) ≤ k = omega (arith, length-append (string_bytes n) (joined (map string_bytes ns)), string_longer n) in
    names_step k earlier (reads_name earlier n ns g) (omega (arith, string_longer n)) (ends_names_after k (earlier ++ (n ∷ [])) ns g.rest less)

pub ends_names : (ns : List Name) → good_names [] ns ≡ true → Ends names_body (joined (map string_bytes ns)) (name_list ns)
unfolding names_body
ends_names ns ok = record { here = (ends_as name_list (ends_names_after (length (joined (map string_bytes ns))) [] ns ok (omega arith))).here }

-- ---- polygons

-- a polygon as POLS has it, without its surface and its part name
abbrev pub bare : ℕ → Polygon → Polygon
bare k p = polygon_of k 0 0 p.vertices

reads_vertex : (point_count : ℕ) → point_count ≤ 2 ^ 24 → (v : ℕ) → ltb v point_count ≡ true → ReadsAs (vertex vx point_count) (vx_bytes v) v
reads_vertex point_count few v small = reads_unless VertexNumber (λ v. ltb v point_count) (reads_vx v (omega (arith, ltb-true v point_count small))) small

reads_polygon : (point_count name_count k : ℕ) → point_count ≤ 2 ^ 24 → (p : Polygon) → good_polygon point_count name_count p ≡ true
    → ReadsAs (polygon point_count k) (polygon_bytes p) (bare k p)
unfolding polygon lwo2_vertices polygon_bytes
reads_polygon point_count name_count k few p ok =
    let g = good_polygon_lem point_count name_count p ok in
    let n : ℕ = length p.vertices in
    let low : count_bits n ≡ n = omega (arith, g.count) in
    let counted = reads_unless VertexCount (λ n. leb 1 (count_bits n)) (reads_uint 2 n (omega (arith, g.count))) (rw low (le-leb 1 n g.count.0)) in
    let row = rows_same vx_bytes (λ v. ltb v point_count) (reads_vertex point_count few) (λ v. omega (arith, length_vx v)) p.vertices g.vertices in
    reads_as _ (reads_then _ counted (rw low (reads_times row)))

length_polygon : (p : Polygon) → 0 < length (polygon_bytes p)
unfolding polygon_bytes
length_polygon p = omega (arith, length-append (bytes 2 (length p.vertices)) (joined (map vx_bytes p.vertices)), length_bytes 2 (length p.vertices))

-- ---- a run's POLS

reads_tag : (t : String) → length (spelt t) ≡ 4 → ReadsAs u4 (spelt t) (number (spelt t))
unfolding uint
reads_tag t four = record { here = (reads_as number (reads_item 4 (spelt t) four)).here }

-- the type of a kind is read as that kind
record Typed (k : ℕ) : Type 0 where
  four : length (spelt (type_of k)) ≡ 4
  known : polygon_type (number (spelt (type_of k))) ≡ true
  kind : polygon_kind (number (spelt (type_of k))) ≡ k

typed : (k : ℕ) → (FACE ≤ k) × (k ≤ PATCH) → Typed k
unfolding number
typed k kinds = go (eqb k FACE) refl
  where
    go : (b : Bool) → eqb k FACE ≡ b → Typed k
    go true e = rw (eqb-true k FACE e) (record { four = refl; known = refl; kind = refl })
    go false e = let patch : k ≡ PATCH = omega (arith, eqb-false k FACE e, kinds) in rw patch (record { four = refl; known = refl; kind = refl })

pub ends_run : (point_count name_count k : ℕ) → point_count ≤ 2 ^ 24 → (FACE ≤ k) × (k ≤ PATCH) → (ps : List Polygon)
    → all (good_polygon point_count name_count) ps ≡ true
    → Ends (polygons_body point_count) (spelt (type_of k) ++ joined (map polygon_bytes ps)) (polygon_list (map (bare k) ps) 0)
unfolding polygons_body
ends_run point_count name_count k few kinds ps ok =
    let t = typed k kinds in
    let row = rows polygon_bytes (bare k) (good_polygon point_count name_count) (reads_polygon point_count name_count k few) length_polygon ps ok in
    ends_then _ (reads_unless PolygonType polygon_type (reads_tag (type_of k) t.four) t.known) (rw t.kind (ends_as (λ ps. polygon_list ps 0) (ends_many row)))

-- ---- a run's PTAGs

reads_pair : (polygon_count name_count i n : ℕ) → polygon_count ≤ 2 ^ 24 → i < polygon_count → GoodTag name_count n → (n ≡ 0 → ⊥)
    → ReadsAs (pair polygon_count name_count) (pair_bytes (i, n)) (i, n)
unfolding pair pair_bytes
reads_pair polygon_count name_count i n few below good some =
    let t : ℕ = n - 1 in
    let back : suc t ≡ n = omega arith in
    let which = reads_unless PolygonNumber (λ p. ltb p polygon_count) (reads_vx i (omega arith)) (lt-ltb i polygon_count below) in
    let tag = reads_unless SurfaceNumber (λ t. ltb t name_count) (reads_uint 2 t (omega (arith, good.numbered))) (lt-ltb t name_count (omega (arith, good.named))) in
    let read : ReadsAs (pair polygon_count name_count) (vx_bytes i ++ bytes 2 t) (i, suc t) = reads_then _ which (reads_as _ tag) in
    rw back at read

length_pair : (t : ℕ × ℕ) → 0 < length (pair_bytes t)
unfolding pair_bytes
length_pair t = omega (arith, length-append (vx_bytes t.0) (bytes 2 (t.1 - 1)), length_vx t.0)

-- A type whose pairs are read, and the number of a polygon that they are for: of a good polygon it can be a tag.
pub record TagType (type : String) (number_of_lem : Polygon → ℕ) : Type 0 where
  pub four : length (spelt type) ≡ 4
  pub is_read : pairs_type (number (spelt type)) ≡ true
  pub good : {point_count name_count : ℕ} {p : Polygon} → GoodPolygon point_count name_count p → GoodTag name_count (number_of_lem p)

pub surface_type : TagType "SURF" (λ p. p.surface)
unfolding number
surface_type = record { four = refl; is_read = refl; good = λ g. g.surface }

pub part_type : TagType "PART" (λ p. p.part_name)
unfolding number
part_type = record { four = refl; is_read = refl; good = λ g. g.part_name }

-- a PTAG of a type
abbrev pub tagging_of : (type : String) → List (ℕ × ℕ) → Part
tagging_of type ts = tagging (number (spelt type)) ts

module _ {type : String} {number_of_lem : Polygon → ℕ} (tag : TagType type number_of_lem) (point_count polygon_count name_count : ℕ) (few : polygon_count ≤ 2 ^ 24) where
  row_pairs : (i : ℕ) (ps : List Polygon) → i + length ps ≤ polygon_count → all (good_polygon point_count name_count) ps ≡ true
      → Row (pair polygon_count name_count) (map pair_bytes (pairs_of number_of_lem i ps)) (pairs_of number_of_lem i ps)
  unfolding pairs_of
  row_pairs i [] fits ok = none
  row_pairs i (p ∷ ps) fits ok = go (eqb (number_of_lem p) 0) refl (row_pairs (suc i) ps (omega arith) (all_rest _ p ps ok))
    where
      good : GoodTag name_count (number_of_lem p)
      good = tag.good (good_polygon_lem point_count name_count p (all_first _ p ps ok))

      go : (b : Bool) → eqb (number_of_lem p) 0 ≡ b → Row (pair polygon_count name_count) (map pair_bytes (pairs_of number_of_lem (suc i) ps)) (pairs_of number_of_lem (suc i) ps)
          → Row (pair polygon_count name_count) (map pair_bytes ((if b then [] else (i, number_of_lem p) ∷ []) ++ pairs_of number_of_lem (suc i) ps)) ((if b then [] else (i, number_of_lem p) ∷ []) ++ pairs_of number_of_lem (suc i) ps)
      go true e later = later
      go false e later = more (reads_pair polygon_count name_count i (number_of_lem p) few (omega arith) good (eqb-false (number_of_lem p) 0 e)) (length_pair (i, number_of_lem p)) later

  pub ends_pairs : (ps : List Polygon) → length ps ≤ polygon_count → all (good_polygon point_count name_count) ps ≡ true
      → Ends (tagging_body polygon_count name_count) (spelt type ++ joined (map pair_bytes (pairs_of number_of_lem 0 ps))) (tagging_of type (pairs_of number_of_lem 0 ps))
  unfolding tagging_body
  ends_pairs ps fits ok = ends_then _ (reads_tag type tag.four) (rw tag.is_read (ends_as (tagging_of type) (ends_many (row_pairs 0 ps (omega arith) ok))))

-- ---- surfaces

-- the values that the SURF of a defined surface holds
unfoldable pub values_of : Surface → List (List Value)
values_of s =
    value (number (spelt "COLR")) (s.red ∷ s.green ∷ s.blue ∷ [])
    ∷ value (number (spelt "DIFF")) (s.diffuse ∷ [])
    ∷ value (number (spelt "LUMI")) (s.luminosity ∷ [])
    ∷ value (number (spelt "SPEC")) (s.specular ∷ [])
    ∷ value (number (spelt "REFL")) (s.reflection ∷ [])
    ∷ value (number (spelt "TRAN")) (s.transparency ∷ [])
    ∷ value (number (spelt "SIDE")) (s.sides ∷ [])
    ∷ []

-- a SURF's own sub-chunks, by their tags
abbrev values : (tag : ℕ) → Reader (List Value)
values = held (nested 2) (Surf LWO2)

-- a sub-chunk of levels, with its envelope, in front of others
more_levels : (t : String) (xs : List ℕ) {ws : List (List ℕ)} {vs : List (List Value)} → is_tag t ≡ true → length xs ≤ 3 → all finite xs ≡ true
    → values (number (spelt t)) ≡ floats (length xs) (λ ws. vx >>= λ envelope. give (value (number (spelt t)) ws))
    → Row (sub values) ws vs → Row (sub values) (level_bytes t xs ∷ ws) (value (number (spelt t)) xs ∷ vs)
unfolding level_bytes
more_levels t xs good few known reader row =
    let envelope : length (vx_bytes 0) ≡ 2 = unfold vx_bytes bytes in refl in
    let body : List ℕ = joined (map (bytes 4) xs) ++ vx_bytes 0 in
    let small : length body < 65536 = omega (arith, length-append (joined (map (bytes 4) xs)) (vx_bytes 0), length_each 4 (bytes 4) (length_bytes 4) xs) in
    more_sub values t body good small (rw reader (ends (reads_floats _ xs known (reads_as _ (reads_vx 0 (omega arith)))))) row

side_small : (n : ℕ) → side_number n ≡ true → n < 65536
side_small n ok = go (eqb n 1) refl ok
  where
    go : (b : Bool) → eqb n 1 ≡ b → b || eqb n 3 ≡ true → n < 65536
    go true e ok = omega (arith, eqb-true n 1 e)
    go false e ok = omega (arith, eqb-true n 3 ok)

ends_sides : (t n : ℕ) → side_number n ≡ true
    → Ends (fixed 2 (u2 or SurfaceValue unless side_number >>= λ n. give (value t (n ∷ [])))) (bytes 2 n) (value t (n ∷ []))
ends_sides t n ok =
    ends_of_length 2 (eqb 2) (eq-eqb 2 (length (bytes 2 n)) (sym (length_bytes 2 n)))
    (ends (reads_as (λ n. value t (n ∷ [])) (reads_unless SurfaceValue side_number (reads_uint 2 n (side_small n ok)) ok)))

row_values : (s : Surface) → all finite (levels s) ≡ true → side_number s.sides ≡ true
    → Row (sub values) (value_chunks s) (values_of s)
unfolding values_of held lwo2_value number all floats
row_values s known sides =
    let finites : (i n : ℕ) → all finite (take n (drop i (levels s))) ≡ true = λ i n. all_part finite (levels s) i n known in
    more_levels "COLR" (s.red ∷ s.green ∷ s.blue ∷ []) refl (omega arith) (finites 0 3) refl
    (more_levels "DIFF" (s.diffuse ∷ []) refl (omega arith) (finites 3 1) refl
    (more_levels "LUMI" (s.luminosity ∷ []) refl (omega arith) (finites 4 1) refl
    (more_levels "SPEC" (s.specular ∷ []) refl (omega arith) (finites 5 1) refl
    (more_levels "REFL" (s.reflection ∷ []) refl (omega arith) (finites 6 1) refl
    (more_levels "TRAN" (s.transparency ∷ []) refl (omega arith) (finites 7 1) refl
    (more_sub values "SIDE" (bytes 2 s.sides) refl (omega (arith, length_bytes 2 s.sides)) (ends_sides _ s.sides sides) none))))))

-- a SURF as it is written: "empty source"
abbrev pub written : Name → Surface → SurfaceChunk
written n s = record { name = n; source = []; values = joined (values_of s) }

pub ends_surface : (n : Name) (s : Surface) → has_no_zero n ≡ true → all finite (levels s) ≡ true → side_number s.sides ≡ true
    → Ends (surface_body LWO2) (surface_bytes n s) (surface (written n s))
unfolding surface_body surface_strings nested surface_bytes joined all
ends_surface n s no_zero known sides =
    let called : ReadsAs (surface_strings LWO2) (string_bytes n ++ string_bytes []) (n, []) = reads_then _ (reads_string n no_zero) (reads_as (λ source. (n, source)) (reads_string [] refl)) in
    rw (← append_assoc (string_bytes n) (string_bytes [])) (ends_then _ called (ends_as (λ vs. surface (record { name = n; source = []; values = vs })) (ends_as joined (ends_many (row_values s known sides)))))

-- the record that those values make
pub record_back : (s : Surface) → s.defined ≡ 1 → record_of LWO2 (joined (values_of s)) ≡ s
unfolding record_of values_of joined last_of number
record_back s defined = λ i. record {
  defined = sym defined i;
  red = s.red;
  green = s.green;
  blue = s.blue;
  diffuse = s.diffuse;
  luminosity = s.luminosity;
  specular = s.specular;
  reflection = s.reflection;
  transparency = s.transparency;
  sides = s.sides;
}
