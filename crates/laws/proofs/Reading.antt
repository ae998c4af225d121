-- What a reader reads back. `ReadsAs r w x`: from the bytes w, in front of any rest, r reads x. `Ends r w x`: from w alone.
use Prim.Native.Nat.{ℕ, zero, suc, ◌+◌, ◌≤◌, ◌<◌}
use mathlib.Core.Path.{◌≡◌, sym, ap}
use mathlib.Core.List.{List, [], ◌∷◌, ◌++◌, map, append_assoc, append-nil, map-id}
use mathlib.Core.Bool.{Bool, true}
use native.Mathlib.Omega.{arith}
use native.Mathlib.Nat.{add-zero, add_assoc}
use lib.ListN.{length, length-append}
use Rattle.format.specs.Bytes.{joined, all}
use Rattle.format.specs.declared.Fault.{Fault}
use Rattle.format.specs.Items.{◌and_then◌, Verdict, fine, Got, Reader, give, ◌>>=◌, ◌or◌unless◌, whole, times, up_to, many}
use Rattle.format.proofs.Facts.{all_first, all_rest}

-- ---- what a reader reads back

abbrev pub got : {A : Type 0} → A → ℕ → List ℕ → Verdict (Got A)
got x next left = fine (record { value = x; next = next; left = left })

pub record ReadsAs {A : Type 0} (r : Reader A) (w : List ℕ) (x : A) : Type 0 where
  pub here : (at : ℕ) (rest : List ℕ) → r at (w ++ rest) ≡ got x (at + length w) rest

pub record Ends {A : Type 0} (r : Reader A) (w : List ℕ) (x : A) : Type 0 where
  pub here : (at : ℕ) → r at w ≡ got x (at + length w) []

-- ---- one after the other

pub reads_give : {A : Type 0} {x : A} → ReadsAs (give x) [] x
reads_give {x = x} = record { here = λ at rest. ap (λ (n : ℕ). got x n rest) (sym (add-zero at)) }

pub ends : {A : Type 0} {r : Reader A} {w : List ℕ} {x : A} → ReadsAs r w x → Ends r w x
ends h = record { here = λ at. rw append-nil at (h.here at []) }

pub reads_then : {A B : Type 0} {r : Reader A} (f : A → Reader B) {v w : List ℕ} {x : A} {y : B} → ReadsAs r v x → ReadsAs (f x) w y
    → ReadsAs (r >>= f) (v ++ w) y
unfolding ◌>>=◌ ◌and_then◌
reads_then f {v} {w} h k = record {
  here = λ at rest. rw (append_assoc v w rest, h.here at (w ++ rest), k.here (at + length v) rest, length-append v w, add_assoc);
}

pub ends_then : {A B : Type 0} {r : Reader A} (f : A → Reader B) {v w : List ℕ} {x : A} {y : B} → ReadsAs r v x → Ends (f x) w y → Ends (r >>= f) (v ++ w) y
unfolding ◌>>=◌ ◌and_then◌
ends_then f {v} {w} h k = record { here = λ at. rw (h.here at w, k.here (at + length v), length-append v w, add_assoc) }

-- the same with a value made of what was read
pub reads_as : {A B : Type 0} {r : Reader A} (f : A → B) {w : List ℕ} {x : A} → ReadsAs r w x → ReadsAs (r >>= λ a. give (f a)) w (f x)
unfolding ◌>>=◌ ◌and_then◌
reads_as f h = record { here = λ at rest. rw (h.here at rest) }

pub ends_as : {A B : Type 0} {r : Reader A} (f : A → B) {w : List ℕ} {x : A} → Ends r w x → Ends (r >>= λ a. give (f a)) w (f x)
unfolding ◌>>=◌ ◌and_then◌
ends_as f h = record { here = λ at. rw (h.here at) }

pub reads_unless : {A : Type 0} {r : Reader A} (why : Fault) (ok : A → Bool) {w : List ℕ} {x : A} → ReadsAs r w x → ok x ≡ true
    → ReadsAs (r or why unless ok) w x
unfolding ◌or◌unless◌ ◌and_then◌
reads_unless why ok h e = record { here = λ at rest. rw (h.here at rest, e) }

pub wholly : {A : Type 0} {r : Reader A} {w : List ℕ} {x : A} (header at : ℕ) → Ends r w x → whole header r at w ≡ fine x
unfolding whole ◌and_then◌
wholly header at h = rw (h.here at)

-- ---- rows: entries, each not empty, and what each is read as

pub data Row {A : Type 0} (r : Reader A) : List (List ℕ) → List A → Type 0 where
  none : Row r [] []
  more : {w : List ℕ} {ws : List (List ℕ)} {x : A} {xs : List A} → ReadsAs r w x → 0 < length w → Row r ws xs → Row r (w ∷ ws) (x ∷ xs)

pub reads_times : {A : Type 0} {r : Reader A} {ws : List (List ℕ)} {xs : List A} → Row r ws xs → ReadsAs (times (length xs) r) (joined ws) xs
unfolding times joined
reads_times none = reads_give
reads_times (more h long row) = reads_then _ h (reads_as _ (reads_times row))

up_to_step : {A : Type 0} {r : Reader A} {w v : List ℕ} {x : A} {xs : List A} (n : ℕ) → ReadsAs r w x → 0 < length w → Ends (up_to n r) v xs
    → Ends (up_to (suc n) r) (w ++ v) (x ∷ xs)
unfolding up_to
up_to_step {w = []} n h long k = absurd (omega arith)
up_to_step {w = b ∷ w} n h long k = record { here = (ends_then _ h (ends_as _ k)).here }

ends_up_to : {A : Type 0} {r : Reader A} {ws : List (List ℕ)} {xs : List A} (n : ℕ) → length (joined ws) ≤ n → Row r ws xs → Ends (up_to n r) (joined ws) xs
unfolding up_to joined
ends_up_to zero fits none = ends reads_give
ends_up_to (suc n) fits none = record { here = (ends reads_give).here }
ends_up_to zero fits (more {w = w} {ws = ws} h long row) = absurd (omega (arith, length-append w (joined ws)))
ends_up_to (suc n) fits (more {w = w} {ws = ws} h long row) = up_to_step n h long (ends_up_to n (omega (arith, length-append w (joined ws))) row)

pub ends_many : {A : Type 0} {r : Reader A} {ws : List (List ℕ)} {xs : List A} → Row r ws xs → Ends (many r) (joined ws) xs
unfolding many
ends_many {ws = ws} row = record { here = (ends_up_to (length (joined ws)) (omega arith) row).here }

-- the row of what a list's elements are written as, where each passes a test
pub rows : {A B : Type 0} {r : Reader B} (bytes_of : A → List ℕ) (read : A → B) (ok : A → Bool) → ((x : A) → ok x ≡ true → ReadsAs r (bytes_of x) (read x))
    → ((x : A) → 0 < length (bytes_of x)) → (xs : List A) → all ok xs ≡ true → Row r (map bytes_of xs) (map read xs)
rows bytes_of read ok reads long [] good = none
rows bytes_of read ok reads long (x ∷ xs) good = more (reads x (all_first ok x xs good)) (long x) (rows bytes_of read ok reads long xs (all_rest ok x xs good))

pub rows_same : {A : Type 0} {r : Reader A} (bytes_of : A → List ℕ) (ok : A → Bool) → ((x : A) → ok x ≡ true → ReadsAs r (bytes_of x) x)
    → ((x : A) → 0 < length (bytes_of x)) → (xs : List A) → all ok xs ≡ true → Row r (map bytes_of xs) xs
rows_same bytes_of ok reads long xs good = rw map-id at (rows bytes_of (λ x. x) ok reads long xs good)
