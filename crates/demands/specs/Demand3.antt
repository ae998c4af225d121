-- DEMAND 3. "More room, or more that isn't ours, never bends an answer. Have the file reader read any bytes twice, the second time into tables each at least as
-- long, whatever stands in the tables. If the first answer isn't NO ROOM, the second is the same: number, place, needs, counts and, where it is accepted, the
-- mesh's entries. The file reader answers NO ROOM exactly when the rules give a mesh and some table is shorter than its need, and then all five needs of that
-- mesh are told. Now take any file to which the rules give a mesh. Put in one more top-level chunk, well formed and with an unlisted tag, first, last or anywhere
-- between, with the FORM length corrected and the whole still at most 16,777,216 bytes. The rules give the file so made the same mesh. From tables as long as
-- before, whatever stands in them, the file reader gives it the same answer, with only the skipped count grown, by one, and, where it is accepted, the same
-- mesh's entries." The mesh is the one that demand 2 defines: what the rules give the file.
use Rattle.std.specs.Prelude.{ℕ, ◌+◌, ◌-◌, ◌/◌, ◌≤◌, ◌<◌, ◌≡◌, List, ◌++◌, ◌↔◌, ◌≢◌, length, take, drop}
use Rattle.format.specs.declared.Kind.{Kind}
use Rattle.format.specs.Limits.{file_limit}
use Rattle.format.specs.Refusals.{no_room_number}
use Rattle.format.specs.Items.{fine}
use Rattle.format.specs.Mesh.{Mesh, Tables, tables, Needs, needs, point_size, polygon_size, record_size}
use Rattle.format.specs.Rules.{form, gives, rules}
use Rattle.format.specs.Answer.{Answer, filled, Reads}
use Rattle.format.specs.Canonical.{bytes}
use Rattle.laws.specs.Conditions.{Longer, UnlistedChunk}
use Rattle.demands.specs.Places.{Boundary}
use Rattle.demands.specs.Demand2.{Given}

-- A file is read into the tables t, which come back as t', and a file into u, which come back as u': the front of each holds the mesh m.
pub record SameEntries (m : Mesh) (t t' u u' : Tables) : Type 0 where
  pub here : t' ≡ filled (tables m) t
  pub there : u' ≡ filled (tables m) u

-- ---- longer tables

-- a reader answers a for a file and the tables t, and b for the same file and the tables u
pub record SameAnswer (file : List ℕ) (t : Tables) (a : Answer) (t' u : Tables) (b : Answer) (u' : Tables) : Type 0 where
  -- "the second is the same: number, place, needs, counts"
  pub answer : b ≡ a
  -- "and, where it is accepted, the mesh's entries"
  pub entries : (g : Given file) → a.number ≡ 0 → SameEntries g.mesh t t' u u'

-- ---- NO ROOM

-- "some table is shorter than its need": "a table is as long as its whole entries"; "The records table needs one entry per name."
pub data Shorter (n : Needs) (t : Tables) : Type 0 where
  points : length t.points / point_size < n.points → Shorter n t
  polygons : length t.polygons / polygon_size < n.polygons → Shorter n t
  vertices : length t.vertices < n.vertices → Shorter n t
  names : length t.names < n.names → Shorter n t
  name_bytes : length t.name_bytes < n.name_bytes → Shorter n t
  records : length t.records / record_size < n.names → Shorter n t

pub record NoRoom (file : List ℕ) (t : Tables) : Type 0 where
  pub given : Given file
  pub short : Shorter (needs given.mesh) t

-- a reader answers a for a file and the tables t
pub record SaysNoRoom (file : List ℕ) (t : Tables) (a : Answer) : Type 0 where
  -- "exactly when the rules give a mesh and some table is shorter than its need"
  pub exactly : (a.number ≡ no_room_number) ↔ NoRoom file t
  -- "and then all five needs of that mesh are told": "On 16 needs and counts are full"
  pub told : (n : NoRoom file t)
      → a ≡ record { number = no_room_number; place = 0; needs = needs n.given.mesh; skipped = n.given.skipped; details = n.given.details }

-- ---- one more unlisted chunk

-- "with the FORM length corrected": "file length less 8"
abbrev pub form_length : (c file : List ℕ) → ℕ
form_length c file = length file + length c - 8

-- the file with the chunk c put in at a place
unfoldable pub with_chunk : (place : ℕ) (c file : List ℕ) → List ℕ
with_chunk place c file = take 4 file ++ (bytes 4 (form_length c file) ++ (take (place - 8) (drop 8 file) ++ (c ++ drop place file)))

-- a file of that kind, and a chunk c that may be put in at that place
pub record OneMore (kind : Kind) (file : List ℕ) (place : ℕ) (c : List ℕ) : Type 0 where
  pub of_kind : form file ≡ fine kind
  -- "first, last or anywhere between"
  pub between : Boundary file place
  -- "one more top-level chunk, well formed and with an unlisted tag"
  pub unlisted : UnlistedChunk kind c
  -- "the whole still at most 16,777,216 bytes"
  pub limit : length file + length c ≤ file_limit

-- "tables as long as before, whatever stands in them"
pub record AsLong (t u : Tables) : Type 0 where
  pub points : length t.points ≡ length u.points
  pub polygons : length t.polygons ≡ length u.polygons
  pub vertices : length t.vertices ≡ length u.vertices
  pub names : length t.names ≡ length u.names
  pub name_bytes : length t.name_bytes ≡ length u.name_bytes
  pub records : length t.records ≡ length u.records

abbrev pub one_more_skipped : Answer → Answer
one_more_skipped a = record { number = a.number; place = a.place; needs = a.needs; skipped = 1 + a.skipped; details = a.details }

-- a reader answers a for a file and the tables t, and b for the file with one more chunk and the tables u
pub record OnlySkipped (m : Mesh) (t : Tables) (a : Answer) (t' u : Tables) (b : Answer) (u' : Tables) : Type 0 where
  -- "the same answer, with only the skipped count grown, by one"
  pub answer : b ≡ one_more_skipped a
  -- "and, where it is accepted, the same mesh's entries"
  pub entries : a.number ≡ 0 → SameEntries m t t' u u'

-- ---- the demand

pub record Demand3 : Type 0 where
  -- "If the first answer isn't NO ROOM, the second is the same"
  pub longer : {file : List ℕ} {t t' u u' : Tables} {a b : Answer} → Reads file t a t' → Reads file u b u' → Longer t u → a.number ≢ no_room_number
      → SameAnswer file t a t' u b u'
  -- "The file reader answers NO ROOM exactly when the rules give a mesh and some table is shorter than its need"
  pub no_room : {file : List ℕ} {t t' : Tables} {a : Answer} → Reads file t a t' → SaysNoRoom file t a
  -- "The rules give the file so made the same mesh."
  pub same_mesh : {kind : Kind} {file : List ℕ} {place : ℕ} {c : List ℕ} → OneMore kind file place c → (g : Given file)
      → rules (with_chunk place c file) ≡ gives g.mesh (1 + g.skipped) g.details
  -- "the file reader gives it the same answer, with only the skipped count grown, by one"
  pub only_skipped : {kind : Kind} {file : List ℕ} {place : ℕ} {c : List ℕ} {t t' u u' : Tables} {a b : Answer} → OneMore kind file place c → (g : Given file)
      → Reads file t a t' → Reads (with_chunk place c file) u b u' → AsLong t u → OnlySkipped g.mesh t a t' u b u'
  -- the last place, the file's end, is a boundary as the first is
  pub last_place : {file : List ℕ} → Given file → Boundary file (length file)
