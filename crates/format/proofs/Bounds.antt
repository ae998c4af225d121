-- The bounds of document 01 by its own numbers, over lists of any content, since no case that is computed is so long: the test of a length comes to one
-- comparison with the number.
use Rattle.std.specs.Prelude.{if◌then◌else◌}
use Prim.Native.Nat.{ℕ, ◌+◌, ◌*◌, ◌/◌, ◌%◌, ◌≤◌, ◌<◌}
use mathlib.Core.Path.{◌≡◌, refl}
use mathlib.Core.List.{List, [], ◌∷◌}
use mathlib.Core.Bool.{Bool, true, false, not, ◌&&◌, ◌||◌, and-eq-true_iff, and-true}
use native.Mathlib.Omega.{arith}
use native.Mathlib.Nat.{mul-div_cancel, mul-mod_left}
use lib.Dec.{leb, ltb, eqb}
use lib.ListN.{length, take, drop}
use borrow.Author.Tests.{lt-ltb, ltb-true, le-leb, leb-true}
use Rattle.format.specs.declared.Kind.{Kind}
use Rattle.format.specs.declared.Kind.TheVariants.{LWOB}
use Rattle.format.specs.declared.Fault.TheVariants.{NotForm, LongIndex}
use Rattle.format.specs.Bytes.{◌is◌, between, number, every, all}
use Rattle.format.specs.Limits.{file_limit, lwo2_vertex_limit}
use Rattle.format.specs.Refusals.{number_of}
use Rattle.format.specs.Items.{Verdict, fine, fault, ◌and_then◌, ◌>>=◌, ◌or◌unless◌, item, uint, vx}
use Rattle.format.specs.Chunks.{size_of, Chunks, finished, broken, chunk}
use Rattle.format.specs.Mesh.{polygon_of, Polygon, FACE, PATCH, Tables, point_size, polygon_size, record_size}
use Rattle.format.specs.Bodies.{Part, whole_points}
use Rattle.format.specs.Rules.{Before, start, after, judge, located, PartAt, walk, kind_of, form, judged, outcome, refused, rules}
use Rattle.format.specs.Canonical.{bytes, vx_bytes, canonical}
use Rattle.format.specs.Written.{mesh_from, whole_entries, good_polygon, is_mesh, says, written}
use Rattle.format.proofs.Facts.{impossible, every_at}

-- ---- "File read or written: at most 16,777,216 bytes."

pub file_too_long : (s : List ℕ) → 16777216 < length s → rules s ≡ refused 1 0
unfolding rules judged form outcome number_of ◌and_then◌
file_too_long s h = rw (lt-ltb file_limit (length s) (omega arith))

-- a verdict that is not answered 1 at 0: by its number before the chunks, and by its place from there on
abbrev NotOne : {A : Type 0} → Verdict A → Type 0
NotOne (fine a) = Unit
NotOne (fault why p) = number_of why ≡ 1 → p ≡ 0 → ⊥

record Other {A : Type 0} (v : Verdict A) : Type 0 where
  so : NotOne v

other_fine : {A : Type 0} {a : A} → Other (fine a)
other_fine = record { so = tt }

other_then : {A B : Type 0} {v : Verdict A} (f : A → Verdict B) → Other v → ((a : A) → Other (f a)) → Other (v and_then f)
unfolding ◌and_then◌
other_then {v = fine a} f h later = later a
other_then {v = fault why p} f h later = record { so = h.so }

other_if : {A : Type 0} (b : Bool) {v w : Verdict A} → (b ≡ true → Other v) → Other w → Other (if b then v else w)
other_if true h k = h refl
other_if false h k = k

other_form : (s : List ℕ) → length s ≤ 16777216 → Other (form s)
unfolding form kind_of number_of
other_form s h =
    let not_form : Other {A = Kind} (fault NotForm 0) = record { so = λ e o. impossible cc } in
    let t = number (take 4 (drop 8 s)) in
    other_if (ltb file_limit (length s)) (λ e. absurd (omega (arith, ltb-true file_limit (length s) e)))
    (other_if (ltb (length s) 12 || not (number (take 4 s) is "FORM")) (λ e. not_form)
    (other_then _ (other_if (t is "LWOB") (λ e. other_fine) (other_if (t is "LWO2") (λ e. other_fine) not_form))
    (λ kind. other_if (eqb (number (take 4 (drop 4 s)) + 8) (length s)) (λ e. other_fine) (record { so = λ e o. impossible cc }))))

other_walk : (kind : Kind) (b : Before) (place : ℕ) (cs : Chunks) → 0 < place → Other (walk kind b place cs)
unfolding walk located
other_walk kind b place finished h = other_fine
other_walk kind b place broken h = record { so = λ e o. absurd (omega arith) }
other_walk kind b place (chunk t body rest) h = other_then _ (one (judge kind b t body)) (λ part. other_then _ (other_walk kind (after b part) (place + size_of 4 (length body)) rest (omega arith)) (λ parts. other_fine))
  where
    one : (v : Verdict Part) → Other (located place v)
    one (fine part) = other_fine
    one (fault why at) = record { so = λ e o. absurd (omega arith) }

pub file_not_too_long : (s : List ℕ) → length s ≤ 16777216 → rules s ≡ refused 1 0 → ⊥
unfolding rules judged outcome
file_not_too_long s h e = by (judged s) (other_then _ (other_form s h) (λ kind. other_then _ (other_walk kind start 12 _ (omega arith)) (λ parts. other_fine))) e
  where
    by : (v : Verdict (Kind × List PartAt)) → Other v → outcome v ≡ refused 1 0 → ⊥
    by (fine f) k e = impossible cc
    by (fault why at) k e = let one : number_of why ≡ 1 = cc in let first : at ≡ 0 = cc in k.so one first

-- 18, "writer: canonical file too long": a mesh whose file is above the number, and no other tables
pub written_too_long : (t : Tables) (room : ℕ) → eqb (written t room).number 18 ≡ (is_mesh t && ltb 16777216 (length (canonical (mesh_from t))))
unfolding written
written_too_long t room = let n = length (canonical (mesh_from t)) in by (is_mesh t) (ltb file_limit n) (ltb room n) n
  where
    by : (mesh over short : Bool) (n : ℕ)
        → eqb (if not mesh then says 17 0 else if over then says 18 0 else if short then says 16 n else says 0 n).number 18 ≡ (mesh && over)
    by true true short n = refl
    by true false true n = refl
    by true false false n = refl
    by false over short n = refl

-- ---- "Points in LWOB: at most 65,536."

-- of the length of a body of so many points
pub points_allowed : (points : ℕ) → whole_points LWOB (points * 12) ≡ leb points 65536
unfolding whole_points
points_allowed points = let none : points * 12 % 12 ≡ 0 = omega arith in let all : points * 12 / 12 ≡ points = omega arith in rw (none, all)

-- ---- 17: "a table with part of an entry or over 16,777,216 entries"

-- of a table of so many entries, each of `size` words
pub entries_allowed : (entries size : ℕ) (ws : List ℕ) → 0 < size → length ws ≡ entries * size → whole_entries size ws ≡ leb entries 16777216
unfolding whole_entries
entries_allowed entries size ws some e = rw (e, mul-mod_left entries size, mul-div_cancel entries some)

few : (size : ℕ) (ws : List ℕ) → whole_entries size ws ≡ true → length ws / size ≤ 16777216
unfolding whole_entries
few size ws e = leb-true _ _ ((and-eq-true_iff (eqb (length ws % size) 0) _).0 e).1

-- each of the six tables is judged so
pub mesh_entries : (t : Tables) → is_mesh t ≡ true
    → (length t.points / point_size ≤ 16777216)
    × (length t.polygons / polygon_size ≤ 16777216)
    × (length t.vertices ≤ 16777216)
    × (length t.names ≤ 16777216)
    × (length t.name_bytes ≤ 16777216)
    × (length t.records / record_size ≤ 16777216)
unfolding is_mesh
mesh_entries t e = (
  few point_size t.points (every_at _ 0 e),
  few polygon_size t.polygons (every_at _ 1 e),
  omega (arith, few 1 t.vertices (every_at _ 2 e)),
  omega (arith, few 1 t.names (every_at _ 3 e)),
  omega (arith, few 1 t.name_bytes (every_at _ 4 e)),
  few record_size t.records (every_at _ 5 e),
)

-- ---- 17: "a surface above the name count or 65,536", and #111: "A part above the name count or 65,536 is 17."

-- of a surface and a part name that are not above the name count: up to the number they are as good as none
pub tags_allowed : (points names : ℕ) (p : Polygon) → p.surface ≤ names → p.part_name ≤ names
    → good_polygon points names p ≡ (good_polygon points names (polygon_of p.kind 0 0 p.vertices) && (leb p.surface 65536 && leb p.part_name 65536))
unfolding good_polygon every
tags_allowed points names p surface part =
    by (between FACE PATCH p.kind) (between 1 lwo2_vertex_limit (length p.vertices)) (all (λ v. ltb v points) p.vertices) (leb p.surface 65536) (leb p.part_name 65536)
    (le-leb p.surface names surface) (le-leb p.part_name names part) (le-leb 0 names (omega arith))
  where
    by : (a b c d e : Bool) {f g h : Bool} → f ≡ true → g ≡ true → h ≡ true
        → every (a ∷ b ∷ c ∷ (f && d) ∷ (g && e) ∷ []) ≡ (every (a ∷ b ∷ c ∷ (h && true) ∷ (h && true) ∷ []) && (d && e))
    by true true true d e f g h = rw (f, g, h, and-true e)
    by true true false d e f g h = refl
    by true false c d e f g h = refl
    by false b c d e f g h = refl

-- ---- "Shortest VX": the last index of two bytes, and the first of four

pub shortest_vx : (vx_bytes 65279 ≡ 0xFE ∷ 0xFF ∷ []) × (vx_bytes 65280 ≡ 0xFF ∷ 0 ∷ 0xFF ∷ 0 ∷ [])
unfolding vx_bytes bytes
shortest_vx = (refl, refl)

-- ---- "Refuse the long form for such an index": each index below 65,280, and no other

pub long_form : (b c d : ℕ) → b < 256 → c < 256 → d < 256 → (at : ℕ) (rest : List ℕ) → let index = (b * 256 + c) * 256 + d in
    vx at (255 ∷ b ∷ c ∷ d ∷ rest) ≡ (if leb 65280 index then fine (record { value = index; next = at + 4; left = rest }) else fault LongIndex at)
unfolding vx uint item number ◌>>=◌ ◌and_then◌ ◌or◌unless◌
long_form b c d b< c< d< at rest =
    let low : ((((0 * 256 + 255) * 256 + b) * 256 + c) * 256 + d) % 16777216 ≡ (b * 256 + c) * 256 + d = omega arith in
    rw (le-leb 4 (length (255 ∷ b ∷ c ∷ d ∷ rest)) (omega arith), low)
