-- The body of a sub-chunk, item by item: its length is judged first where it is fixed, then each item, and then that nothing is left over.
use mathlib.Core.Path.{◌≡◌, sym}
use mathlib.Core.List.{List, []}
use Prim.Native.Nat.{ℕ, ◌+◌, ◌-◌, ◌≤◌}
use native.Mathlib.Omega.{arith}
use lib.Dec.{eqb}
use lib.Ieee.{Float}
use lib.ListN.{length}
use borrow.Author.Tests.{eq-eqb, ne_eqb}
use Rattle.std.specs.Prelude.{Result, Ok, Err, Some, None}
use Rattle.format.specs.Items.{fault, Reader, ◌>>=◌, float}
use Rattle.format.specs.Chunks.{fixed}
use Rattle.format.specs.Surfaces.{Value as Words, unlisted}
use Rattle.format.specs.Promises.{itself, Says, JudgedAt}
use Rattle.format.proofs.ReaderSteps.{used_up, faulty, wrong_length, not_judged, judged_on, judged_off, judged_length}
use Rattle.wire.specs.declared.Refusal.{Refusal}
use Rattle.wire.specs.declared.cursor.Cursor.{Cursor}
use Rattle.surface_levels.specs.declared.value.Value.{Value}
use Rattle.surface_levels.specs.Levels.{bits}
use Rattle.surface_levels.specs.Promises.{FixedAt, FloatAt, RestAt, ValueAt, ValueResultAt}

-- ---- a fixed length

module _ {s : List ℕ} {head : ℕ} (n : ℕ) where
  pub fitted : {A B : Type 0} (r : Reader A) {h : A → B} {answer : _} → length s - (head + 6) ≡ n → JudgedAt head (head + 6) r h s answer
      → JudgedAt head (head + 6) (fixed n r) h s answer
  fitted r e j = judged_length 2 (eqb n) r (eq-eqb n (length s - (head + 6)) (sym e)) j

  pub other_length : (r : Reader (List Words)) {f : Refusal} → FixedAt n s head (Err f) → ValueAt (fixed n r) head s (Err f)
  other_length r e =
      let back : head + 6 - 6 ≡ head = omega arith in
      let other = wrong_length 2 (eqb n) r (ne_eqb n (length s - (head + 6)) (λ q. e.0 (sym q))) in
      record { judged = rw e.1 (rw back at (faulty {header = head} {start = head + 6} {h = itself} {s = s} other)); has_bits = tt }

  -- its first item is at fault
  pub first_bad : {A : Type 0} {r : Reader A} (k : A → Reader (List Words)) {f : Refusal} → length s - (head + 6) ≡ n
      → Says r itself s (head + 6) (fault f.why f.at) → ValueAt (fixed n (r >>= k)) head s (Err f)
  first_bad k e w = record { judged = fitted _ e (judged_off k w); has_bits = tt }

-- ---- a float first

module _ {s : List ℕ} {head at : ℕ} (k : ℕ → Reader (List Words)) where
  pub float_bad : {f : Refusal} → FloatAt s at (Err f) → RestAt (float >>= k) head s at (Err f)
  float_bad w = record { judged = judged_off k w.reads.says; has_bits = tt }

  pub float_then : {x : Float} {c : Cursor} {answer : Result Value Refusal} → FloatAt s at (Ok (x, c)) → RestAt (k (bits x)) head s c.at answer
      → RestAt (float >>= k) head s at answer
  float_then w e = record { judged = judged_on k w.reads.says e.judged; has_bits = e.has_bits }

-- ---- by tag

module _ {head : ℕ} {s : List ℕ} {r r' : Reader (List Words)} (same : r' ≡ r) where
  pub given_value : {v : Value} → ValueAt r head s (Ok v) → ValueResultAt r' head s (Ok (Some v))
  given_value w = rw same record { judged = w.judged; has_bits = w.has_bits }

  pub given_stop : {f : Refusal} → ValueAt r head s (Err f) → ValueResultAt r' head s (Err f)
  given_stop w = rw same record { judged = w.judged; has_bits = tt }

pub unlisted_value : {head : ℕ} {s : List ℕ} {r : Reader (List Words)} → r ≡ unlisted → head + 6 ≤ length s → ValueResultAt r head s (Ok None)
unlisted_value e fits = rw e record { judged = used_up (not_judged [] fits) (omega arith); has_bits = tt }
