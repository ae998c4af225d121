-- Demand 1: the answer goes by what the rules say of the file, or by the writer's three tests in their order; each case is one of the table's rows.
use Rattle.std.specs.Prelude.{if◌then◌else◌}
use Prim.Native.Nat.{ℕ}
use mathlib.Core.Path.{◌≡◌, refl, sym, ap, ◌∙◌}
use mathlib.Core.List.{List}
use mathlib.Core.Bool.{Bool, true, false, not, true≢false, or-true}
use native.Mathlib.Omega.{arith}
use lib.Dec.{ltb, eqb}
use lib.ListN.{length}
use borrow.Author.Tests.{ltb-true, ltb-false}
use Rattle.format.specs.declared.Kind.{Kind}
use Rattle.format.specs.declared.Fault.{Fault}
use Rattle.format.specs.Limits.{file_limit}
use Rattle.format.specs.Refusals.{no_room_number, not_mesh_number, too_long_number}
use Rattle.format.specs.Items.{Verdict, fault, ◌and_then◌}
use Rattle.format.specs.Chunks.{chunk_of}
use Rattle.format.specs.Mesh.{Tables, tables, needs}
use Rattle.format.specs.Bodies.{Part}
use Rattle.format.specs.Rules.{Before, judge, Outcome, refused, gives, rules}
use Rattle.format.specs.Answer.{Answer, answer, fits, over, filled, tables_after, Reads}
use Rattle.format.specs.Written.{is_mesh, Written, says, written, output_after, Writes}
use Rattle.format.proofs.Facts.{impossible}
use Rattle.laws.proofs.OnePlace.{told_in_body}
use Rattle.demands.specs.Places.{chunk_judged, StartsAt}
use Rattle.demands.specs.Places.StartsAt.{header, inside}
use Rattle.demands.specs.Demand1.{Refused, ReadAnswers, file_of, WriteAnswers, Demand1}
use Rattle.demands.proofs.Refusals.{InOutcome, rules_in}

-- ---- file readers

module _ {file : List ℕ} {t t' : Tables} {a : Answer} where
  -- the rules give a mesh: 0 or 16
  given : (b : Bool) (u : Tables) → (Refused file → ⊥) → a.number ≡ (if b then 0 else no_room_number) → a.place ≡ 0 → t' ≡ (if b then u else t)
      → ReadAnswers file t a t'
  given true u none number place l = record {
    exactly = (rw number (λ e. absurd (true≢false (sym e))), λ r. absurd (none r));
    told = λ r. absurd (none r);
    number = rw number;
    place_in_chunk = rw number (λ e. absurd (true≢false (sym e)));
    place_of_file = λ e. place;
    leaves = λ other. absurd (other number);
  }
  given false u none number place l = record {
    exactly = (rw number (λ e. absurd (true≢false (sym e))), λ r. absurd (none r));
    told = λ r. absurd (none r);
    number = rw number;
    place_in_chunk = rw number (λ e. absurd (true≢false (sym e)));
    place_of_file = λ e. place;
    leaves = λ other. l;
  }

  read_by : (o : Outcome) → InOutcome file o → rules file ≡ o → a ≡ answer o t → t' ≡ tables_after o t → ReadAnswers file t a t'
  unfolding answer tables_after
  read_by (refused number place) w is e l =
      let is_number : a.number ≡ number = ap (λ (x : Answer). x.number) e in
      let is_place : a.place ≡ place = ap (λ (x : Answer). x.place) e in
      record {
        exactly = (λ h. record { number = number; place = place; by_rules = is }, λ r. rw is_number w.of_reader);
        told = λ r. e ∙ (cc (is, r.by_rules));
        number = rw (is_number, w.of_reader, or-true (eqb number 0));
        place_in_chunk = rw (is_number, is_place) w.of_chunk;
        place_of_file = rw (is_number, is_place) w.of_file;
        leaves = λ other. l;
      }
  read_by (gives m k d) w is e l =
      given (fits (needs m) t) (filled (tables m) t) (λ r. impossible (cc (is, r.by_rules))) (ap (λ (x : Answer). x.number) e) (ap (λ (x : Answer). x.place) e) l

read_answers : {file : List ℕ} {t t' : Tables} {a : Answer} → Reads file t a t' → ReadAnswers file t a t'
read_answers {file} r = read_by (rules file) (rules_in file) refl r.answers r.leaves

-- the rules tell of the chunk what starts in it
told : {kind : Kind} {b : Before} {s : List ℕ} {why : Fault} {at : ℕ} → StartsAt kind b s why at → chunk_judged kind b s ≡ fault why at
unfolding chunk_judged chunk_of ◌and_then◌
told (header bad) = rw bad
told {kind} {b} {why = why} {at = at} (inside c got starts) = rw (got, told_in_body (judge kind b c.value.tag) c.value.body why at starts)

one_start : {kind : Kind} {b : Before} {s : List ℕ} {why other : Fault} {at there : ℕ} → StartsAt kind b s why at → StartsAt kind b s other there
    → (why ≡ other) × (at ≡ there)
one_start {why = why} {other} {at} {there} x y = let same : ◌≡◌ {A = Verdict Part} (fault why at) (fault other there) = sym (told x) ∙ told y in (cc same, cc same)

-- ---- writers

-- two answers with different numbers are not the same
differ : {k l m n : ℕ} {P : Type 0} → (k ≡ m → ⊥) → says k l ≡ says m n → P
differ other e = absurd (other (ap (λ (x : Written). x.number) e))

module _ {t : Tables} {out out' : List ℕ} where
  by_tests : (x y z : Bool) → is_mesh t ≡ x → ltb file_limit (length (file_of t)) ≡ y → ltb (length out) (length (file_of t)) ≡ z → {a : Written}
      → a ≡ (if not x then says not_mesh_number 0 else if y then says too_long_number 0 else if z then says no_room_number (length (file_of t)) else says 0 (length (file_of t)))
      → out' ≡ (if eqb a.number 0 then over (file_of t) out else out) → WriteAnswers t out a out'
  by_tests false y z mesh long short e left = rw e (record {
    not_mesh = (λ q. mesh, λ q. refl);
    too_long = (differ (λ q. omega arith), λ h. absurd (true≢false (sym h.mesh ∙ mesh)));
    no_room = (differ (λ q. omega arith), λ h. absurd (true≢false (sym h.mesh ∙ mesh)));
    leaves = λ other. rw e at left;
  })
  by_tests true true z mesh long short e left = rw e (record {
    not_mesh = (differ (λ q. omega arith), λ q. absurd (true≢false (sym mesh ∙ q)));
    too_long = (λ q. record { mesh = mesh; long = omega (arith, ltb-true file_limit (length (file_of t)) long) }, λ q. refl);
    no_room = (differ (λ q. omega arith), λ h. absurd (omega (arith, ltb-true file_limit (length (file_of t)) long, h.limit)));
    leaves = λ other. rw e at left;
  })
  by_tests true false true mesh long short e left = rw e (record {
    not_mesh = (differ (λ q. omega arith), λ q. absurd (true≢false (sym mesh ∙ q)));
    too_long = (differ (λ q. omega arith), λ h. absurd (omega (arith, ltb-false file_limit (length (file_of t)) long, h.long)));
    no_room = (λ q. record { mesh = mesh; limit = omega (arith, ltb-false file_limit (length (file_of t)) long); short = omega (arith, ltb-true (length out) (length (file_of t)) short) }, λ q. refl);
    leaves = λ other. rw e at left;
  })
  by_tests true false false mesh long short e left = rw e (record {
    not_mesh = (differ (λ q. omega arith), λ q. absurd (true≢false (sym mesh ∙ q)));
    too_long = (differ (λ q. omega arith), λ h. absurd (omega (arith, ltb-false file_limit (length (file_of t)) long, h.long)));
    no_room = (differ (λ q. omega arith), λ h. absurd (omega (arith, ltb-false (length out) (length (file_of t)) short, h.short)));
    leaves = λ other. absurd (other refl);
  })

write_answers : {t : Tables} {out out' : List ℕ} {a : Written} → Writes t out a out' → WriteAnswers t out a out'
unfolding written output_after
write_answers {t} {out} {out'} {a} w =
    by_tests (is_mesh t) (ltb file_limit (length (file_of t))) (ltb (length out) (length (file_of t))) refl refl refl w.answers (w.leaves ∙ ap (λ (x : Written). if eqb x.number 0 then over (file_of t) out else out) (sym w.answers))

pub demand_1 : Demand1
demand_1 = record { of_reader = read_answers; one_start = one_start; of_writer = write_answers }
