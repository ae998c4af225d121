-- Demand 3: room decides between 0 and 16 alone, and a chunk put in between two others is walked over.
use Prim.Native.Nat.{ℕ, ◌+◌, ◌/◌, ◌<◌}
use mathlib.Core.Path.{◌≡◌, refl, sym, ap, ◌∙◌}
use mathlib.Core.List.{List, []}
use mathlib.Core.Bool.{Bool, true, false, true≢false}
use mathlib.Core.Logic.{◌≢◌}
use native.Mathlib.Omega.{arith}
use lib.Dec.{leb}
use lib.ListN.{length}
use borrow.Author.Tests.{leb-true, leb-false}
use Rattle.format.specs.declared.Kind.{Kind}
use Rattle.format.specs.declared.Kind.TheVariants.{LWO2}
use Rattle.format.specs.Bytes.{number, every, all}
use Rattle.format.specs.Refusals.{no_room_number}
use Rattle.format.specs.Mesh.{Mesh, Tables, tables, Needs, needs, point_size, polygon_size, record_size}
use Rattle.format.specs.Items.{◌and_then◌}
use Rattle.format.specs.Chunks.{size_of, length_of, well_formed}
use Rattle.format.specs.Rules.{kind_of, form, gives, rules}
use Rattle.format.specs.Canonical.{bytes, chunk_bytes, form_bytes}
use Rattle.format.specs.Answer.{Answer, answer, fits, filled, Reads}
use Rattle.format.proofs.Facts.{every_at}
use Rattle.laws.proofs.Room as room
use Rattle.laws.specs.Conditions.{Longer}
use Rattle.laws.proofs.Room.{more_room}
use Rattle.demands.specs.Places.{first}
use Rattle.demands.specs.Demand2.{Given, Readable}
use Rattle.demands.specs.Demand3.{SameAnswer, Shorter, points, polygons, vertices, names, name_bytes, records, NoRoom, SaysNoRoom, with_chunk, OneMore, AsLong, one_more_skipped, OnlySkipped, Demand3}
use Rattle.demands.proofs.Demand2.{reads_mesh}
use Rattle.demands.proofs.Boundaries.{last}
use Rattle.demands.proofs.Insertion.{inserted}

-- where a mesh was accepted, the tables hold it
holds : {file : List ℕ} {t t' : Tables} {a : Answer} → Reads file t a t' → (g : Given file) → a.number ≡ 0 → t' ≡ filled (tables g.mesh) t
holds {file} {t} r g zero =
    let x : Readable file t = (reads_mesh r).exactly.0 zero in
    let same : x.given.mesh ≡ g.mesh = cc (x.given.by_rules, g.by_rules) in
    (reads_mesh r).holds x ∙ ap (λ (m : Mesh). filled (tables m) t) same

-- ---- longer tables

longer : {file : List ℕ} {t t' u u' : Tables} {a b : Answer} → Reads file t a t' → Reads file u b u' → Longer t u → a.number ≢ no_room_number
    → SameAnswer file t a t' u b u'
longer {file} {t} {t'} {u} {u'} {a} {b} r q more other =
    let number : a.number ≡ (answer (rules file) t).number = ap (λ (x : Answer). x.number) r.answers in
    let same : b ≡ a = q.answers ∙ more_room (rules file) t u more (λ e. other (number ∙ e)) ∙ sym r.answers in
    record { answer = same; entries = λ g zero. record { here = holds r g zero; there = holds q g (ap (λ (x : Answer). x.number) same ∙ zero) } }

-- ---- NO ROOM

-- a table is shorter than its need, or it is long enough
or_else : {P : Type 0} (need long : ℕ) → (long < need → P) → (leb need long ≡ true → P) → P
or_else {P} need long short enough = by (leb need long) refl
  where
    by : (b : Bool) → leb need long ≡ b → P
    by true e = enough e
    by false e = short (leb-false need long e)

pub shorter : (n : Needs) (t : Tables) → fits n t ≡ false → Shorter n t
unfolding fits every
shorter n t e =
    or_else n.points (length t.points / point_size) (λ h. points (omega arith))
    (λ h₁. or_else n.polygons (length t.polygons / polygon_size) (λ h. polygons (omega arith))
    (λ h₂. or_else n.vertices (length t.vertices) (λ h. vertices (omega arith))
    (λ h₃. or_else n.names (length t.names) (λ h. names (omega arith))
    (λ h₄. or_else n.name_bytes (length t.name_bytes) (λ h. name_bytes (omega arith))
    (λ h₅. or_else n.names (length t.records / record_size) (λ h. records (omega arith))
    (λ h₆. absurd (true≢false (rw (h₁, h₂, h₃, h₄, h₅, h₆) at e))))))))

too_short : (n : Needs) (t : Tables) → Shorter n t → fits n t ≡ true → ⊥
unfolding fits
too_short n t (points h) e = omega (arith, leb-true n.points (length t.points / point_size) (every_at _ 0 e))
too_short n t (polygons h) e = omega (arith, leb-true n.polygons (length t.polygons / polygon_size) (every_at _ 1 e))
too_short n t (vertices h) e = omega (arith, leb-true n.vertices (length t.vertices) (every_at _ 2 e))
too_short n t (names h) e = omega (arith, leb-true n.names (length t.names) (every_at _ 3 e))
too_short n t (name_bytes h) e = omega (arith, leb-true n.name_bytes (length t.name_bytes) (every_at _ 4 e))
too_short n t (records h) e = omega (arith, leb-true n.names (length t.records / record_size) (every_at _ 5 e))

no_room : {file : List ℕ} {t : Tables} → NoRoom file t → room.MeshWithoutRoom (rules file) t
no_room {file} {t} n = record {
  mesh = n.given.mesh;
  skipped = n.given.skipped;
  details = n.given.details;
  given = n.given.by_rules;
  short = not_true _ (too_short _ t n.short);
}
  where
    not_true : (b : Bool) → (b ≡ true → ⊥) → b ≡ false
    not_true true f = absurd (f refl)
    not_true false f = refl

no_room_exactly : {file : List ℕ} {t t' : Tables} {a : Answer} → Reads file t a t' → SaysNoRoom file t a
unfolding no_room
no_room_exactly {file} {t} {t'} {a} r =
    let full : (n : NoRoom file t) → a ≡ record { number = no_room_number; place = 0; needs = needs n.given.mesh; skipped = n.given.skipped; details = n.given.details } =
    λ n. r.answers ∙ room.no_room_answer (rules file) t (no_room n) in
    let found : a.number ≡ no_room_number → NoRoom file t =
    λ e. let x = (room.no_room_exactly file t).0 (sym (ap (λ (x : Answer). x.number) r.answers) ∙ e) in
    record { given = record { mesh = x.mesh; skipped = x.skipped; details = x.details; by_rules = x.given }; short = shorter _ t x.short } in
    record { exactly = (found, λ n. ap (λ (x : Answer). x.number) (full n)); told = full }

-- ---- one more unlisted chunk

fits_same : (n : Needs) {t u : Tables} → AsLong t u → fits n u ≡ fits n t
unfolding fits
fits_same n h = rw (h.points, h.polygons, h.vertices, h.names, h.name_bytes, h.records)

only_skipped : {kind : Kind} {file : List ℕ} {place : ℕ} {c : List ℕ} {t t' u u' : Tables} {a b : Answer} → OneMore kind file place c → (g : Given file)
    → Reads file t a t' → Reads (with_chunk place c file) u b u' → AsLong t u → OnlySkipped g.mesh t a t' u b u'
unfolding answer
only_skipped {file = file} {place = place} {c = c} {t = t} {u = u} {a = a} {b = b} o g r q long =
    let with : Given (with_chunk place c file) = record { mesh = g.mesh; skipped = 1 + g.skipped; details = g.details; by_rules = inserted o g.by_rules } in
    let old : a ≡ answer (gives g.mesh g.skipped g.details) t = r.answers ∙ rw g.by_rules in
    let new : b ≡ one_more_skipped (answer (gives g.mesh g.skipped g.details) t) = q.answers ∙ rw (with.by_rules, fits_same (needs g.mesh) long) in
    let same : b ≡ one_more_skipped a = new ∙ sym (ap one_more_skipped old) in
    record { answer = same; entries = λ zero. record { here = holds r g zero; there = holds q with (ap (λ (x : Answer). x.number) same ∙ zero) } }

pub demand_3 : Demand3
demand_3 = record {
  longer = longer;
  no_room = no_room_exactly;
  same_mesh = λ o g. inserted o g.by_rules;
  only_skipped = only_skipped;
  last_place = λ g. last g.by_rules;
}

-- There is such a file and such a chunk: case a of document 01 with an empty chunk put in, which is then its first and its last. Computed.
pub one_more_there : OneMore LWO2 (form_bytes "LWO2" []) 12 (chunk_bytes 4 "JUNK" [])
unfolding form kind_of number form_bytes chunk_bytes bytes well_formed size_of length_of every all ◌and_then◌
one_more_there = record { of_kind = refl; between = first; unlisted = record { formed = refl; exact = refl; tag = refl }; limit = omega arith }
