-- The demands decide a call: the rules refuse the file, or give a mesh with room or without; the tables are no mesh, or its file is too long, too long for the
-- output, or fits. In each case one of the statements has the whole answer, and one the whole of what is lent.
use Rattle.std.specs.Prelude.{if◌then◌else◌}
use Prim.Native.Nat.{ℕ}
use mathlib.Core.Path.{◌≡◌, refl, sym, ap, ◌∙◌}
use mathlib.Core.List.{List}
use mathlib.Core.Bool.{Bool, true, false, not, false≢true}
use mathlib.Core.Logic.{◌≢◌}
use native.Mathlib.Omega.{arith}
use lib.Dec.{ltb, eqb}
use lib.ListN.{length}
use borrow.Author.Tests.{ne_eqb, ltb-true, ltb-false}
use Rattle.format.specs.Bytes.{byte, all}
use Rattle.format.specs.Limits.{file_limit}
use Rattle.format.specs.Refusals.{is_of_reader, no_room_number, not_mesh_number, too_long_number}
use Rattle.format.specs.Mesh.{Tables, needs}
use Rattle.format.specs.Rules.{Outcome, refused, gives, rules}
use Rattle.format.specs.Answer.{Answer, answer, fits, over, tables_after, Reads}
use Rattle.format.specs.Written.{is_mesh, Written, says, written, output_after, Writes}
use Rattle.demands.specs.Demand1.{Refused, file_of}
use Rattle.demands.specs.Demand2.{Given, Readable, Writable}
use Rattle.demands.specs.Demand3.{NoRoom}
use Rattle.demands.specs.Complete.{ReadDemands, WriteDemands, Complete}
use Rattle.demands.specs.Entries.{Entries}
use Rattle.demands.proofs.Demand1.{demand_1}
use Rattle.demands.proofs.Demand2.{demand_2}
use Rattle.demands.proofs.Demand3.{shorter, demand_3}

-- ---- one reading

module _ {file : List ℕ} {t t' : Tables} {a : Answer} (bytes : all byte file ≡ true) (d : ReadDemands file t a t') where
  reads_refused : {number place : ℕ} → rules file ≡ refused number place → Reads file t a t'
  unfolding answer tables_after
  reads_refused {number} {place} e =
      let r : Refused file = record { number = number; place = place; by_rules = e } in
      let some : a.number ≢ 0 = λ zero. false≢true (sym (ap is_of_reader zero) ∙ d.answers.exactly.1 r) in
      record { bytes = bytes; answers = d.answers.told r ∙ rw e; leaves = d.answers.leaves some ∙ rw e }

  reads_given : (g : Given file) (b : Bool) → fits (needs g.mesh) t ≡ b → Reads file t a t'
  unfolding answer tables_after
  reads_given g true room =
      let r : Readable file t = record { given = g; room = room } in
      record { bytes = bytes; answers = d.mesh.answer r ∙ rw (g.by_rules, room); leaves = d.mesh.holds r ∙ rw (g.by_rules, room) }
  reads_given g false room =
      let n : NoRoom file t = record { given = g; short = shorter (needs g.mesh) t room } in
      let number : a.number ≡ no_room_number = d.no_room.exactly.1 n in
      record { bytes = bytes; answers = d.no_room.told n ∙ rw (g.by_rules, room); leaves = d.answers.leaves (λ zero. omega arith) ∙ rw (g.by_rules, room) }

  by_outcome : (o : Outcome) → rules file ≡ o → Reads file t a t'
  by_outcome (refused number place) e = reads_refused e
  by_outcome (gives m k n) e = let g : Given file = record { mesh = m; skipped = k; details = n; by_rules = e } in reads_given g (fits (needs m) t) refl

  reads : Reads file t a t'
  reads = by_outcome (rules file) refl

-- ---- one writing

module _ {t : Tables} {out out' : List ℕ} {a : Written} (d : WriteDemands t out a out') where
  -- what the writer says, by its tests
  abbrev Said : (x y z : Bool) → Written
  Said x y z = if not x then says not_mesh_number 0 else if y then says too_long_number 0 else if z then says no_room_number (length (file_of t)) else says 0 (length (file_of t))

  left : a.number ≢ 0 → out' ≡ (if eqb a.number 0 then over (file_of t) out else out)
  left other = d.answers.leaves other ∙ rw (ne_eqb a.number 0 other)

  by_tests : (x y z : Bool) → is_mesh t ≡ x → ltb file_limit (length (file_of t)) ≡ y → ltb (length out) (length (file_of t)) ≡ z
      → (a ≡ Said x y z) × (out' ≡ (if eqb a.number 0 then over (file_of t) out else out))
  by_tests false y z mesh long short = let e = d.answers.not_mesh.1 mesh in (e, left (λ zero. omega (arith, ap (λ (x : Written). x.number) e)))
  by_tests true true z mesh long short =
      let e = d.answers.too_long.1 (record { mesh = mesh; long = omega (arith, ltb-true file_limit (length (file_of t)) long) }) in
      (e, left (λ zero. omega (arith, ap (λ (x : Written). x.number) e)))
  by_tests true false true mesh long short =
      let e = d.answers.no_room.1 (record { mesh = mesh; limit = omega (arith, ltb-false file_limit (length (file_of t)) long); short = omega (arith, ltb-true (length out) (length (file_of t)) short) }) in
      (e, left (λ zero. omega (arith, ap (λ (x : Written). x.number) e)))
  by_tests true false false mesh long short =
      let w : Writable t out = record { mesh = mesh; limit = omega (arith, ltb-false file_limit (length (file_of t)) long); room = omega (arith, ltb-false (length out) (length (file_of t)) short) } in
      let h = d.mesh.holds w in
      (h.answer, h.bytes ∙ rw h.answer)

  writes : Writes t out a out'
  unfolding written output_after
  writes =
      let both = by_tests (is_mesh t) (ltb file_limit (length (file_of t))) (ltb (length out) (length (file_of t))) refl refl refl in
      record { answers = both.0; leaves = both.1 ∙ ap (λ (x : Written). if eqb x.number 0 then over (file_of t) out else out) both.0 }

pub complete : Complete
complete = record { reading = reads; writing = writes }

-- ---- the entries

of_reading : {file : List ℕ} {t t' : Tables} {a : Answer} → Reads file t a t' → ReadDemands file t a t'
of_reading r = record { answers = demand_1.of_reader r; mesh = demand_2.of_reader r; no_room = demand_3.no_room r }

of_writing : {t : Tables} {out out' : List ℕ} {a : Written} → Writes t out a out' → WriteDemands t out a out'
of_writing w = record { answers = demand_1.of_writer w; mesh = demand_2.of_writer w }

pub entries : Entries
entries = record { read = λ a r. of_reading r; write = λ a w. of_writing w; lwo_read = λ a r. of_reading r; lwo_write = λ a w. of_writing w }
