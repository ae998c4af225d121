-- What the writer wrote, read back: the round trip over tables and over the writer's and the reader's answers.
use Rattle.std.specs.Prelude.{if◌then◌else◌}
use Prim.Native.Nat.{ℕ, ◌≤◌}
use mathlib.Core.Path.{◌≡◌, refl}
use mathlib.Core.List.{List}
use mathlib.Core.Bool.{Bool, true, false, not}
use native.Mathlib.Omega.{arith}
use lib.Dec.{ltb}
use lib.ListN.{length, take, drop}
use lib.Seq.{take_at}
use borrow.Author.Tests.{ltb-false, le-ltb}
use Rattle.format.specs.Limits.{file_limit}
use Rattle.format.specs.Refusals.{no_room_number, not_mesh_number, too_long_number}
use Rattle.format.specs.Mesh.{Mesh, Tables, tables, needs}
use Rattle.format.specs.Rules.{gives, rules}
use Rattle.format.specs.Answer.{answer, fits, over, filled, tables_after}
use Rattle.format.specs.Canonical.{canonical}
use Rattle.format.specs.Written.{mesh_from, good_mesh, is_mesh, says, written, output_after}
use Rattle.laws.proofs.RoundTrip.{round_trip}
use Rattle.laws.proofs.Tables.{good_tables, tables_back, mesh_from_tables, tables_of_mesh}

-- ---- what the writer wrote

-- what holds where the writer writes
pub record AcceptedWrite (t : Tables) (room : ℕ) : Type 0 where
  pub mesh : is_mesh t ≡ true
  pub short : length (canonical (mesh_from t)) ≤ file_limit
  pub fits : length (canonical (mesh_from t)) ≤ room
  pub long : (written t room).length ≡ length (canonical (mesh_from t))

pub wrote : (t : Tables) (room : ℕ) → (written t room).number ≡ 0 → AcceptedWrite t room
unfolding written
wrote t room done = go (is_mesh t) (ltb file_limit n) (ltb room n) refl refl refl done
  where
    n : ℕ
    n = length (canonical (mesh_from t))

    go : (a b c : Bool) → is_mesh t ≡ a → ltb file_limit n ≡ b → ltb room n ≡ c
        → (if not a then says not_mesh_number 0 else if b then says too_long_number 0 else if c then says no_room_number n else says 0 n).number ≡ 0 → AcceptedWrite t room
    go false b c ea eb ec done = absurd (omega arith)
    go true true c ea eb ec done = absurd (omega arith)
    go true false true ea eb ec done = absurd (omega arith)
    go true false false ea eb ec done = record { mesh = ea; short = ltb-false file_limit n eb; fits = ltb-false room n ec; long = rw (ea, eb, ec) }

-- the bytes that the writer wrote give the mesh of the tables that it was given
pub written_back : (t : Tables) (out : List ℕ) → (written t (length out)).number ≡ 0
    → rules (take (written t (length out)).length (output_after t out)) ≡ gives (mesh_from t) 0 0
unfolding output_after
written_back t out done =
    let w : AcceptedWrite t (length out) = wrote t (length out) done in
    let file : List ℕ = canonical (mesh_from t) in
    rw (w.long, done, take_at file (drop (length file) out) (length file) refl)
    (round_trip (mesh_from t) (good_tables t w.mesh) w.short)

-- and a reader with tables that hold it puts the same tables at the front of its own
pub tables_again : (t mine : Tables) (out : List ℕ) → (written t (length out)).number ≡ 0 → fits (needs (mesh_from t)) mine ≡ true
    → tables_after (rules (take (written t (length out)).length (output_after t out))) mine ≡ filled t mine
unfolding tables_after
tables_again t mine out done room = rw (written_back t out done, room, tables_back t (wrote t (length out) done).mesh)

-- ---- every mesh is written, and read again

-- every good mesh whose file is within the limit and fits the buffer is written
pub is_written : (m : Mesh) (room : ℕ) → good_mesh m ≡ true → length (canonical m) ≤ file_limit → length (canonical m) ≤ room
    → written (tables m) room ≡ says 0 (length (canonical m))
unfolding written
is_written m room ok short enough =
    let n : ℕ = length (canonical m) in
    rw (tables_of_mesh m ok short, mesh_from_tables m, le-ltb file_limit n short, le-ltb room n enough)

-- and read again with room enough it is the same mesh: points to the bit, polygons, names, surface records
pub record Again (m : Mesh) (mine : Tables) (out : List ℕ) : Type 0 where
  pub says_written : written (tables m) (length out) ≡ says 0 (length (canonical m))
  pub bytes_are : output_after (tables m) out ≡ over (canonical m) out
  pub gives_again : rules (canonical m) ≡ gives m 0 0
  pub answers : answer (rules (canonical m)) mine ≡ record { number = 0; place = 0; needs = needs m; skipped = 0; details = 0 }
  pub holds : tables_after (rules (canonical m)) mine ≡ filled (tables m) mine

pub again : (m : Mesh) (mine : Tables) (out : List ℕ) → good_mesh m ≡ true → length (canonical m) ≤ file_limit → length (canonical m) ≤ length out
    → fits (needs m) mine ≡ true → Again m mine out
unfolding output_after answer tables_after
again m mine out ok short enough room =
    let said : written (tables m) (length out) ≡ says 0 (length (canonical m)) = is_written m (length out) ok short enough in
    let back : rules (canonical m) ≡ gives m 0 0 = round_trip m ok short in
    record { says_written = said; bytes_are = rw (said, mesh_from_tables m); gives_again = back; answers = rw (back, room); holds = rw (back, room) }
