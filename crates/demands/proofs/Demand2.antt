-- Demand 2: acceptance goes by the rules and the room, and the round trip of `laws` brings back what was written.
use Rattle.std.specs.Prelude.{if◌then◌else◌}
use Prim.Native.Nat.{ℕ, ◌*◌, ◌≤◌}
use mathlib.Core.Path.{◌≡◌, refl, sym, ap, ◌∙◌, subst}
use mathlib.Core.List.{List, map, append-nil}
use mathlib.Core.Bool.{Bool, true, false, false≢true}
use mathlib.Core.Logic.{◌≢◌}
use native.Mathlib.Omega.{arith}
use lib.Dec.{ltb}
use lib.ListN.{length, take, drop, length-map, drop_of_length-le}
use lib.Seq.{take_at}
use borrow.Author.Tests.{le-ltb}
use Rattle.format.specs.Bytes.{joined}
use Rattle.format.specs.Limits.{file_limit, entry_limit}
use Rattle.format.specs.Refusals.{is_of_reader, no_room_number, not_mesh_number, too_long_number}
use Rattle.format.specs.Mesh.{Mesh, Tables, tables, needs, point_words, point_size, polygon_words, polygon_size, surface_words, record_size}
use Rattle.format.specs.Rules.{Outcome, refused, gives, rules}
use Rattle.format.specs.Answer.{Answer, answer, fits, over, filled, tables_after, Reads}
use Rattle.format.specs.Canonical.{canonical}
use Rattle.format.specs.Written.{good_mesh, mesh_from, is_mesh, Written, says, written, output_after, Writes}
use Rattle.format.proofs.Facts.{length_each, length_joined, length_joined_map}
use Rattle.format.proofs.ChunkWalk.{within_limit}
use Rattle.format.proofs.ChunkWalk.{accepted as accepted_file}
use Rattle.laws.proofs.Accepted.{accepted_good}
use Rattle.laws.proofs.Lengths.{Counts}
use Rattle.laws.proofs.Meshes.{good}
use Rattle.laws.proofs.RoundTrip.{round_trip}
use Rattle.laws.proofs.Tables.{mesh_from_tables, tables_back, good_mesh_tables, tables_of_mesh}
use Rattle.laws.proofs.WrittenBack.{wrote, written_back}
use Rattle.demands.specs.Demand2.{Readable, accepted, ReadsMesh, Writable, WroteMesh, WritesMesh, MeshWithin, SameMesh, JustFits, Demand2}
use Rattle.validate.proofs.NeedsBound.{few_needs}
use Rattle.demands.proofs.Refusals.{InOutcome, rules_in}

-- ---- reading

-- no refusal of the rules has the number 0
readable : (file : List ℕ) (t : Tables) → (answer (rules file) t).number ≡ 0 → Readable file t
unfolding answer
readable file t e = by (rules file) (rules_in file) refl e
  where
    room : (b : Bool) → ◌≡◌ {A = ℕ} (if b then 0 else no_room_number) 0 → b ≡ true
    room true e = refl
    room false e = absurd (omega arith)

    by : (o : Outcome) → InOutcome file o → rules file ≡ o → (answer o t).number ≡ 0 → Readable file t
    by (refused number place) w is e = absurd (false≢true (sym (ap is_of_reader e) ∙ w.of_reader))
    by (gives m k d) w is e = record { given = record { mesh = m; skipped = k; details = d; by_rules = is }; room = room (fits (needs m) t) e }

pub reads_mesh : {file : List ℕ} {t t' : Tables} {a : Answer} → Reads file t a t' → ReadsMesh file t a t'
unfolding answer tables_after
reads_mesh {file} {t} {t'} {a} r =
    let full : (x : Readable file t) → a ≡ accepted x.given.mesh x.given.skipped x.given.details = λ x. r.answers ∙ rw (x.given.by_rules, x.room) in
    record {
      exactly = (λ e. readable file t (sym (ap (λ (x : Answer). x.number) r.answers) ∙ e), λ x. ap (λ (x : Answer). x.number) (full x));
      answer = full;
      holds = λ x. r.leaves ∙ rw (x.given.by_rules, x.room);
    }

-- ---- writing

writes_mesh : {t : Tables} {out out' : List ℕ} {a : Written} → Writes t out a out' → WritesMesh t out a out'
unfolding written output_after
writes_mesh {t} {out} {out'} {a} w =
    let said : Writable t out → written t (length out) ≡ says 0 (length (canonical (mesh_from t))) = λ x. rw (x.mesh, le-ltb file_limit (length (canonical (mesh_from t))) (omega (arith, x.limit)), le-ltb (length out) (length (canonical (mesh_from t))) (omega (arith, x.room))) in
    let can : (a.number ≡ 0) → Writable t out = λ e. let x = wrote t (length out) (sym (ap (λ (x : Written). x.number) w.answers) ∙ e) in record { mesh = x.mesh; limit = x.short; room = x.fits } in
    record {
      exactly = (can, λ x. ap (λ (x : Written). x.number) (w.answers ∙ said x));
      holds = λ x. record { answer = w.answers ∙ said x; bytes = w.leaves ∙ rw (said x) };
    }

-- ---- every mesh, and back

every_mesh : {m : Mesh} {out out' : List ℕ} {a : Written} → MeshWithin m → length (canonical m) ≤ length out → Writes (tables m) out a out'
    → WroteMesh m out a out'
every_mesh {m} {out} f room w =
    let back : mesh_from (tables m) ≡ m = mesh_from_tables m in
    let x : Writable (tables m) out = record { mesh = tables_of_mesh m f.good f.limit; limit = rw back (omega (arith, f.limit)); room = rw back room } in
    rw back at ((writes_mesh w).holds x)

read_back : {m : Mesh} {file : List ℕ} {t t' : Tables} {a : Answer} → rules file ≡ gives m 0 0 → fits (needs m) t ≡ true → Reads file t a t'
    → SameMesh m (tables m) file t a t'
read_back {m} {file} {t} e room r =
    let x : Readable file t = record { given = record { mesh = m; skipped = 0; details = 0; by_rules = e }; room = room } in
    record { by_rules = e; answer = (reads_mesh r).answer x; holds = (reads_mesh r).holds x }

mesh_again : {m : Mesh} {out out' : List ℕ} {w : Written} {t t' : Tables} {a : Answer} → MeshWithin m → length (canonical m) ≤ length out
    → Writes (tables m) out w out'
    → fits (needs m) t ≡ true → Reads (take w.length out') t a t' → SameMesh m (tables m) (take w.length out') t a t'
mesh_again {m} {out} {out'} {w} f long_enough done room r =
    let x = every_mesh f long_enough done in
    let long : w.length ≡ length (canonical m) = ap (λ (x : Written). x.length) x.answer in
    let file : take w.length out' ≡ canonical m = rw (long, x.bytes) (take_at (canonical m) (drop (length (canonical m)) out) (length (canonical m)) refl) in
    read_back (rw file (round_trip m f.good f.limit)) room r

tables_again : {s : Tables} {out out' : List ℕ} {w : Written} {t t' : Tables} {a : Answer} → Writes s out w out' → w.number ≡ 0
    → fits (needs (mesh_from s)) t ≡ true → Reads (take w.length out') t a t' → SameMesh (mesh_from s) s (take w.length out') t a t'
tables_again {s} {out} {out'} {w} done zero room r =
    let said : (written s (length out)).number ≡ 0 = sym (ap (λ (x : Written). x.number) done.answers) ∙ zero in
    let long : w.length ≡ (written s (length out)).length = ap (λ (x : Written). x.length) done.answers in
    let again = read_back (rw (long, done.leaves) (written_back s out said)) room r in
    rw (tables_back s ((writes_mesh done).exactly.0 zero).mesh) at again

-- ---- what is accepted is a mesh

-- a table of just the length of what is put at its front
just : (new old : List ℕ) → length old ≡ length new → over new old ≡ new
just new old e = rw (drop_of_length-le old {i = length new} (omega arith), append-nil new)

just_filled : (m : Mesh) (t : Tables) → length m.surfaces ≡ length m.names → JustFits (needs m) t → filled (tables m) t ≡ tables m
unfolding filled tables needs
just_filled m t as_many h = λ i. record {
  points = just (joined (map point_words m.points)) t.points (h.points ∙ sym (length_each point_size point_words (λ p. refl) m.points)) i;
  polygons = just (joined (map polygon_words m.polygons)) t.polygons (h.polygons ∙ sym (length_each polygon_size polygon_words (λ p. refl) m.polygons)) i;
  vertices = just (joined (map (λ p. p.vertices) m.polygons)) t.vertices (h.vertices ∙ length_joined_map (λ p. p.vertices) m.polygons) i;
  names = just (map length m.names) t.names (h.names ∙ sym (length-map m.names length)) i;
  name_bytes = just (joined m.names) t.name_bytes (h.name_bytes ∙ length_joined m.names) i;
  records = just (joined (map surface_words m.surfaces)) t.records (h.records ∙ ap (λ n. n * record_size) (sym as_many) ∙ sym (length_each record_size surface_words (λ s. refl) m.surfaces)) i;
}

-- no table of a mesh that was read has more entries than the file has bytes
few_entries : (file : List ℕ) {m : Mesh} {k d : ℕ} → rules file ≡ gives m k d → Counts m entry_limit
unfolding needs
few_entries file {m} e =
    let few = few_needs file e in
    let most = within_limit file (accepted_file e).formed in
    let vertices = length_joined_map (λ p. p.vertices) m.polygons in
    let bytes = length_joined m.names in
    record { points = omega arith; polygons = omega arith; vertices = omega arith; names = omega arith; name_bytes = omega arith }

-- a writer that is lent a mesh does not answer 17
mesh_not_17 : (t : Tables) (room : ℕ) → is_mesh t ≡ true → (written t room).number ≢ not_mesh_number
unfolding written
mesh_not_17 t room mesh = rw mesh (by (ltb file_limit (length (canonical (mesh_from t)))) (ltb room (length (canonical (mesh_from t)))))
  where
    by : (y z : Bool)
        → (if y then says too_long_number 0 else if z then says no_room_number (length (canonical (mesh_from t))) else says 0 (length (canonical (mesh_from t)))).number ≢ not_mesh_number
    by true z e = omega arith
    by false true e = omega arith
    by false false e = omega arith

not_17 : {file : List ℕ} {t t' : Tables} {a : Answer} {out out' : List ℕ} {w : Written} → Reads file t a t' → a.number ≡ 0 → JustFits a.needs t
    → Writes t' out w out' → w.number ≢ not_mesh_number
not_17 {file} {t} {t'} {a} {out} {out'} {w} r zero h done said =
    let x : Readable file t = (reads_mesh r).exactly.0 zero in
    let m : Mesh = x.given.mesh in
    let good_one : good_mesh m ≡ true = accepted_good file r.bytes x.given.by_rules in
    let told : a.needs ≡ needs m = ap (λ (y : Answer). y.needs) ((reads_mesh r).answer x) in
    let held : t' ≡ tables m = (reads_mesh r).holds x ∙ just_filled m t (good m good_one).counts (subst (λ n. JustFits n t) told h) in
    let mesh : is_mesh t' ≡ true = ap is_mesh held ∙ good_mesh_tables m good_one (few_entries file x.given.by_rules) in
    mesh_not_17 t' (length out) mesh (sym (ap (λ (y : Written). y.number) done.answers) ∙ said)

pub demand_2 : Demand2
demand_2 = record {
  of_reader = reads_mesh;
  of_writer = writes_mesh;
  every_mesh = every_mesh;
  back = λ f. round_trip _ f.good f.limit;
  again = mesh_again;
  tables_again = tables_again;
  good = λ r g. accepted_good _ r.bytes g.by_rules;
  not_17 = not_17;
}
