-- DEMAND 2. "A file is accepted exactly when the rules in document 01, drawn from the published LWOB and LWO2 descriptions, give it a mesh and our tables have
-- room; the tables then hold that mesh. Every mesh whose file is within the limit and fits our buffer is written, and read again with room enough is the same
-- mesh: points to the bit, polygons, names, surface records."
use Rattle.std.specs.Prelude.{ℕ, ◌*◌, ◌≤◌, ◌≡◌, List, true, ◌↔◌, ◌≢◌, length, take}
use Rattle.format.specs.Limits.{file_limit}
use Rattle.format.specs.Refusals.{not_mesh_number}
use Rattle.format.specs.Mesh.{Mesh, Tables, tables, point_size, polygon_size, record_size, Needs, needs}
use Rattle.format.specs.Rules.{gives, rules}
use Rattle.format.specs.Answer.{Answer, fits, over, filled, Reads}
use Rattle.format.specs.Canonical.{canonical}
use Rattle.format.specs.Written.{good_mesh, mesh_from, is_mesh, Written, says, Writes}

-- ---- reading

-- the rules give the file a mesh
pub record Given (file : List ℕ) : Type 0 where
  pub mesh : Mesh
  pub skipped : ℕ
  pub details : ℕ
  pub by_rules : rules file ≡ gives mesh skipped details

-- "and our tables have room"
pub record Readable (file : List ℕ) (t : Tables) : Type 0 where
  pub given : Given file
  pub room : fits (needs given.mesh) t ≡ true

-- "On 0 the place is 0, needs and counts are full": the needs are the mesh's own, the counts the rules'
abbrev pub accepted : Mesh → (skipped details : ℕ) → Answer
accepted m skipped details = record { number = 0; place = 0; needs = needs m; skipped = skipped; details = details }

-- a reader answers a for a file and the tables t, which come back as t'
pub record ReadsMesh (file : List ℕ) (t : Tables) (a : Answer) (t' : Tables) : Type 0 where
  -- "A file is accepted exactly when the rules in document 01, drawn from the published LWOB and LWO2 descriptions, give it a mesh and our tables have room"
  pub exactly : (a.number ≡ 0) ↔ Readable file t
  -- with that mesh's needs, and the counts
  pub answer : (r : Readable file t) → a ≡ accepted r.given.mesh r.given.skipped r.given.details
  -- "the tables then hold that mesh": "the front of each table holds the mesh and the rest is unchanged"
  pub holds : (r : Readable file t) → t' ≡ filled (tables r.given.mesh) t

-- ---- writing

-- the tables are a mesh (else 17), and its file is "within the limit" (else 18) "and fits" (else 16)
pub record Writable (t : Tables) (out : List ℕ) : Type 0 where
  pub mesh : is_mesh t ≡ true
  pub limit : length (canonical (mesh_from t)) ≤ file_limit
  pub room : length (canonical (mesh_from t)) ≤ length out

-- a writer put the canonical file of the mesh m into the output out, which comes back as out'
pub record WroteMesh (m : Mesh) (out : List ℕ) (a : Written) (out' : List ℕ) : Type 0 where
  -- 0, the place 0, and the length: "bytes written on 0"
  pub answer : a ≡ says 0 (length (canonical m))
  -- "output past that length is unchanged"
  pub bytes : out' ≡ over (canonical m) out

-- a writer answers a for the tables t and the output out, which comes back as out'
pub record WritesMesh (t : Tables) (out : List ℕ) (a : Written) (out' : List ℕ) : Type 0 where
  pub exactly : (a.number ≡ 0) ↔ Writable t out
  pub holds : Writable t out → WroteMesh (mesh_from t) out a out'

-- ---- every mesh, and back

-- "Every mesh whose file is within the limit"
pub record MeshWithin (m : Mesh) : Type 0 where
  -- nothing that document 01 lists under 17 holds of it
  pub good : good_mesh m ≡ true
  pub limit : length (canonical m) ≤ file_limit

-- A reader answers a for a file that was written and the tables t, which come back as t': "is the same mesh: points to the bit, polygons, names, surface
-- records". The tables held hold the mesh m.
pub record SameMesh (m : Mesh) (held : Tables) (file : List ℕ) (t : Tables) (a : Answer) (t' : Tables) : Type 0 where
  pub by_rules : rules file ≡ gives m 0 0
  pub answer : a ≡ accepted m 0 0
  pub holds : t' ≡ filled held t

-- tables of just the size that some needs ask for
pub record JustFits (n : Needs) (t : Tables) : Type 0 where
  pub points : length t.points ≡ n.points * point_size
  pub polygons : length t.polygons ≡ n.polygons * polygon_size
  pub vertices : length t.vertices ≡ n.vertices
  pub names : length t.names ≡ n.names
  pub name_bytes : length t.name_bytes ≡ n.name_bytes
  pub records : length t.records ≡ n.names * record_size

-- ---- the demand

pub record Demand2 : Type 0 where
  -- "A file is accepted exactly when the rules in document 01, drawn from the published LWOB and LWO2 descriptions, give it a mesh and our tables have room; the
  -- tables then hold that mesh."
  pub of_reader : {file : List ℕ} {t t' : Tables} {a : Answer} → Reads file t a t' → ReadsMesh file t a t'
  -- tables are written exactly when they are a mesh whose file is within the limit and fits
  pub of_writer : {t : Tables} {out out' : List ℕ} {a : Written} → Writes t out a out' → WritesMesh t out a out'
  -- "Every mesh whose file is within the limit and fits our buffer is written"
  pub every_mesh : {m : Mesh} {out out' : List ℕ} {a : Written} → MeshWithin m → length (canonical m) ≤ length out → Writes (tables m) out a out'
      → WroteMesh m out a out'
  -- and the rules give its file that mesh
  pub back : {m : Mesh} → MeshWithin m → rules (canonical m) ≡ gives m 0 0
  -- "and read again with room enough is the same mesh": the bytes written, read into any tables that have room
  pub again : {m : Mesh} {out out' : List ℕ} {w : Written} {t t' : Tables} {a : Answer} → MeshWithin m → length (canonical m) ≤ length out
      → Writes (tables m) out w out'
      → fits (needs m) t ≡ true → Reads (take w.length out') t a t' → SameMesh m (tables m) (take w.length out') t a t'
  -- the same over tables: those that were written, whatever they are, stand at the front of those read into
  pub tables_again : {s : Tables} {out out' : List ℕ} {w : Written} {t t' : Tables} {a : Answer} → Writes s out w out' → w.number ≡ 0
      → fits (needs (mesh_from s)) t ≡ true → Reads (take w.length out') t a t' → SameMesh (mesh_from s) s (take w.length out') t a t'
  -- what is accepted is a mesh
  pub good : {file : List ℕ} {t t' : Tables} {a : Answer} → Reads file t a t' → (g : Given file) → good_mesh g.mesh ≡ true
  -- and tables of just its size, as they were read, are never answered with 17
  pub not_17 : {file : List ℕ} {t t' : Tables} {a : Answer} {out out' : List ℕ} {w : Written} → Reads file t a t' → a.number ≡ 0 → JustFits a.needs t
      → Writes t' out w out' → w.number ≢ not_mesh_number
