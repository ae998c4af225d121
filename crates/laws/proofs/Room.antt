-- What room in the lent tables decides: whether a mesh is answered with 0 or with 16, and nothing else of the answer.
use Rattle.std.specs.Prelude.{if◌then◌else◌}
use Prim.Native.Nat.{ℕ, ◌/◌, ◌≤◌}
use mathlib.Core.Path.{◌≡◌, refl, sym, ap, ◌∙◌}
use mathlib.Core.List.{List}
use mathlib.Core.Logic.{◌↔◌, ◌≢◌}
use mathlib.Core.Bool.{Bool, true, false, false≢true}
use native.Mathlib.Omega.{arith}
use lib.Dec.{leb}
use lib.ListN.{length}
use borrow.Author.Tests.{le-leb, leb-true}
use Rattle.format.specs.declared.Fault.{Fault}
use Rattle.format.specs.declared.Fault.TheVariants.{FileTooLong, NotForm, FormLength, BadHeader, OutOfOrder, WrongLength, ItemCut, StringOpen, LongIndex, NotFinite, VertexCount, VertexNumber, SurfaceNumber, PolygonNumber, PolygonType, BadName, DetailSurface, SurfaceValue}
use Rattle.format.specs.Bytes.{every}
use Rattle.format.specs.Refusals.{number_of, is_of_reader, no_room_number}
use Rattle.format.specs.Items.{Verdict, fine, fault}
use Rattle.format.specs.declared.Kind.{Kind}
use Rattle.format.specs.Mesh.{Mesh, point_size, polygon_size, record_size, Tables, Needs, needs}
use Rattle.format.specs.Rules.{PartAt, parts_of, Outcome, refused, gives, judged, mesh_of, outcome, rules}
use Rattle.format.specs.Answer.{fits, Answer, answer}
use Rattle.format.proofs.Facts.{impossible, every_at}
use Rattle.laws.specs.Conditions.{Longer}

-- ---- longer tables

-- what was long enough still is
still : (n a b : ℕ) → a ≤ b → leb n a ≡ true → leb n b ≡ true
still n a b longer e = le-leb n b (omega (arith, leb-true n a e))

more_fits : (n : Needs) (t u : Tables) → Longer t u → fits n t ≡ true → fits n u ≡ true
unfolding fits
more_fits n t u h e =
    let points : leb n.points (length u.points / point_size) ≡ true = still _ (length t.points / point_size) _ (omega arith) (every_at _ 0 e) in
    let polygons : leb n.polygons (length u.polygons / polygon_size) ≡ true = still _ (length t.polygons / polygon_size) _ (omega arith) (every_at _ 1 e) in
    let vertices : leb n.vertices (length u.vertices) ≡ true = still _ (length t.vertices) _ h.vertices (every_at _ 2 e) in
    let names : leb n.names (length u.names) ≡ true = still _ (length t.names) _ h.names (every_at _ 3 e) in
    let name_bytes : leb n.name_bytes (length u.name_bytes) ≡ true = still _ (length t.name_bytes) _ h.name_bytes (every_at _ 4 e) in
    let records : leb n.names (length u.records / record_size) ≡ true = still _ (length t.records / record_size) _ (omega arith) (every_at _ 5 e) in
    rw (points, polygons, vertices, names, name_bytes, records) (unfold every in refl)

-- an answer to a mesh that is not 16 is one with room
had_room : (m : Mesh) (k d : ℕ) (t : Tables) → (answer (gives m k d) t).number ≢ no_room_number → fits (needs m) t ≡ true
unfolding answer
had_room m k d t other = go (fits (needs m) t) other
  where
    go : (b : Bool) → (◌≡◌ {A = ℕ} (if b then 0 else no_room_number) no_room_number → ⊥) → b ≡ true
    go true other = refl
    go false other = absurd (other refl)

-- longer tables never change an answer that is not 16
pub more_room : (o : Outcome) (t u : Tables) → Longer t u → (answer o t).number ≢ no_room_number → answer o u ≡ answer o t
unfolding answer
more_room (refused number place) t u h other = refl
more_room (gives m k d) t u h other =
    let room : fits (needs m) t ≡ true = had_room m k d t other in
    let more : fits (needs m) u ≡ true = more_fits (needs m) t u h room in
    rw (room, more)

-- ---- when the answer is 16

-- a mesh that the tables do not hold
pub record MeshWithoutRoom (o : Outcome) (t : Tables) : Type 0 where
  pub mesh : Mesh
  pub skipped : ℕ
  pub details : ℕ
  pub given : o ≡ gives mesh skipped details
  pub short : fits (needs mesh) t ≡ false

-- a fault of a file has one of the reader's numbers
pub number_range : (why : Fault) → is_of_reader (number_of why) ≡ true
unfolding number_of
number_range FileTooLong = refl
number_range NotForm = refl
number_range FormLength = refl
number_range BadHeader = refl
number_range OutOfOrder = refl
number_range WrongLength = refl
number_range ItemCut = refl
number_range StringOpen = refl
number_range LongIndex = refl
number_range NotFinite = refl
number_range VertexCount = refl
number_range VertexNumber = refl
number_range SurfaceNumber = refl
number_range PolygonNumber = refl
number_range PolygonType = refl
number_range BadName = refl
number_range DetailSurface = refl
number_range SurfaceValue = refl

pub refused_range : (s : List ℕ) {number place : ℕ} → rules s ≡ refused number place → is_of_reader number ≡ true
unfolding rules outcome
refused_range s {number} e = by (judged s) e
  where
    by : {place : ℕ} (v : Verdict (Kind × List PartAt)) → outcome v ≡ refused number place → is_of_reader number ≡ true
    by (fine f) e = impossible cc
    by (fault why at) e = let same : number_of why ≡ number = cc in ap is_of_reader (sym same) ∙ number_range why

-- what was judged is answered with 16 only where it is a mesh that the tables do not hold
no_room_of : (v : Verdict (Kind × List PartAt)) (t : Tables) → (answer (outcome v) t).number ≡ no_room_number → MeshWithoutRoom (outcome v) t
unfolding outcome answer
no_room_of (fault why at) t e = absurd (false≢true (sym (ap is_of_reader e) ∙ number_range why))
no_room_of (fine f) t e = record { mesh = m; skipped = _; details = _; given = refl; short = go (fits (needs m) t) e }
  where
    m : Mesh
    m = mesh_of f.0 (parts_of f.1)

    go : (b : Bool) → ◌≡◌ {A = ℕ} (if b then 0 else no_room_number) no_room_number → b ≡ false
    go true e = absurd (omega arith)
    go false e = refl

-- where there is such a mesh, the answer is 16, and all five needs and both counts are told
pub no_room_answer : (o : Outcome) (t : Tables) (n : MeshWithoutRoom o t)
    → answer o t ≡ record { number = no_room_number; place = 0; needs = needs n.mesh; skipped = n.skipped; details = n.details }
unfolding answer
no_room_answer o t n = rw (n.given, n.short)

-- and the answer to a file is 16 nowhere else
pub no_room_exactly : (s : List ℕ) (t : Tables) → ((answer (rules s) t).number ≡ no_room_number) ↔ MeshWithoutRoom (rules s) t
unfolding rules
no_room_exactly s t = (no_room_of (judged s) t, λ n. ap (λ (a : Answer). a.number) (no_room_answer (rules s) t n))
