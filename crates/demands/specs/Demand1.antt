-- DEMAND 1. "Whatever bytes come in, and whatever buffers we lend, each public entry answers and stops by itself. A refusal is a number from your table with
-- the place of the chunk, and no table or output buffer of ours is changed by one byte." "For 4 to 15, 19 and 20 the place, demand 1's too, becomes the offset of
-- the first byte of the header, item or string at fault"; of 22 it is "the index's first byte". That each call answers and stops is what a proved function means:
-- no public entry asks anything of its caller.
use Rattle.std.specs.Prelude.{ℕ, ◌≤◌, ◌<◌, ◌≡◌, List, Bool, true, false, ◌||◌, ◌↔◌, ◌≢◌, length, eqb}
use Rattle.format.specs.declared.Kind.{Kind}
use Rattle.format.specs.declared.Fault.{Fault}
use Rattle.format.specs.Limits.{file_limit}
use Rattle.format.specs.Refusals.{is_of_chunk, is_of_reader, no_room_number, not_mesh_number, too_long_number}
use Rattle.format.specs.Mesh.{Tables}
use Rattle.format.specs.Rules.{Before, refused, rules}
use Rattle.format.specs.Answer.{Answer, no_needs, Reads}
use Rattle.format.specs.Canonical.{canonical}
use Rattle.format.specs.Written.{mesh_from, is_mesh, Written, says, Writes}
use Rattle.demands.specs.Places.{StartsAt, AtFault}

-- ---- file readers

-- the rules refuse the file
pub record Refused (file : List ℕ) : Type 0 where
  pub number : ℕ
  pub place : ℕ
  pub by_rules : rules file ≡ refused number place

-- "on every other refusal they are 0": needs and counts
abbrev pub refusal : (number place : ℕ) → Answer
refusal number place = record { number = number; place = place; needs = no_needs; skipped = 0; details = 0 }

-- the numbers that a reader answers: 0, its refusals of a file, and 16
abbrev pub answer_number : ℕ → Bool
answer_number number = eqb number 0 || is_of_reader number || eqb number no_room_number

-- a reader answers a for a file and the tables t, which come back as t'
pub record ReadAnswers (file : List ℕ) (t : Tables) (a : Answer) (t' : Tables) : Type 1 where
  -- "A refusal is a number from your table": 1 to 15, 19, 20 or 22 exactly when the rules refuse the file; of 16 demand 3 tells
  pub exactly : (is_of_reader a.number ≡ true) ↔ Refused file
  -- with the rules' own number and place
  pub told : (r : Refused file) → a ≡ refusal r.number r.place
  -- and there is no other number
  pub number : answer_number a.number ≡ true
  -- "For 4 to 15, 19 and 20 the place" is "the offset of the first byte of the header, item or string at fault"; for 22, an item's fault, "the index's first byte"
  pub place_in_chunk : is_of_chunk a.number ≡ true → AtFault file a.number a.place
  -- and for 0, 1, 2, 3 and 16 the place 0
  pub place_of_file : is_of_chunk a.number ≡ false → a.place ≡ 0
  -- "no table or output buffer of ours is changed by one byte"
  pub leaves : a.number ≢ 0 → t' ≡ t

-- ---- writers

-- the file of the mesh that the tables hold
abbrev pub file_of : Tables → List ℕ
file_of t = canonical (mesh_from t)

-- "The writer: 17, 18, 16." Each is judged where those before it do not apply.
pub record TooLong (t : Tables) : Type 0 where
  pub mesh : is_mesh t ≡ true
  pub long : file_limit < length (file_of t)

pub record OutputShort (t : Tables) (out : List ℕ) : Type 0 where
  pub mesh : is_mesh t ≡ true
  pub limit : length (file_of t) ≤ file_limit
  pub short : length out < length (file_of t)

-- a writer answers a for the tables t and the output out, which comes back as out'
pub record WriteAnswers (t : Tables) (out : List ℕ) (a : Written) (out' : List ℕ) : Type 0 where
  -- 17: "writer: not a mesh". A refusal has place 0, and a length: "bytes needed on 16, else 0"
  pub not_mesh : (a ≡ says not_mesh_number 0) ↔ (is_mesh t ≡ false)
  -- 18: "writer: canonical file too long"
  pub too_long : (a ≡ says too_long_number 0) ↔ TooLong t
  -- 16: "NO ROOM: table or output too short"
  pub no_room : (a ≡ says no_room_number (length (file_of t))) ↔ OutputShort t out
  -- "no table or output buffer of ours is changed by one byte"; tables are lent to a writer as shared slices
  pub leaves : a.number ≢ 0 → out' ≡ out

-- ---- the demand

pub record Demand1 : Type 1 where
  pub of_reader : {file : List ℕ} {t t' : Tables} {a : Answer} → Reads file t a t' → ReadAnswers file t a t'
  -- what has a chunk's fault starts at one place: no other fault, and no other place, meets the statement
  pub one_start : {kind : Kind} {b : Before} {s : List ℕ} {why other : Fault} {at there : ℕ} → StartsAt kind b s why at → StartsAt kind b s other there
      → (why ≡ other) × (at ≡ there)
  pub of_writer : {t : Tables} {out out' : List ℕ} {a : Written} → Writes t out a out' → WriteAnswers t out a out'
