-- What the answers of items say, in the specification's words. `s` is the lent slice, and `at` the place that was read at.
use Rattle.std.specs.Prelude.{ℕ, ◌+◌, ◌≡◌, ◌≤◌, ◌<◌, MatchResult, List, length, take, drop, ℤ, Result, Ok, Err}
use Rattle.format.specs.declared.Fault.TheVariants.{ItemCut}
use Rattle.format.specs.Bytes.{absolute, negative}
use Rattle.format.specs.Items.{Verdict, fine, fault, Got, Reader, i2, string}
use Rattle.format.specs.Promises.{got, nothing, Keeps, ReadsAt, taking, name_size}
use Rattle.wire.specs.declared.Refusal.{Refusal}
use Rattle.wire.specs.declared.cursor.Cursor.{Cursor}
use Rattle.wire.specs.declared.cursor.SignedSurface.{SignedSurface}

-- ---- answers

-- a value, or the first fault and its place
abbrev pub verdict_as : {A : Type 0} → Result A Refusal → Verdict A
verdict_as (Ok a) = fine a
verdict_as (Err f) = fault f.why f.at

-- a value and the cursor after it
abbrev pub read_as : {A : Type 0} → List ℕ → Result (A × Cursor) Refusal → Verdict (Got A)
read_as s (Ok r) = got s r.0 r.1.at
read_as s (Err f) = fault f.why f.at

-- the cursor alone
abbrev pub step_as : List ℕ → Result Cursor Refusal → Verdict (Got (Unit {0}))
step_as s (Ok c) = got s tt c.at
step_as s (Err f) = fault f.why f.at

-- ---- items

-- the cursor after n bytes, where they are not cut
abbrev pub AfterAt : (n : ℕ) → List ℕ → ℕ → Result Cursor Refusal → Type 0
AfterAt n s at answer =
    MatchResult answer (λ c. (at + n ≤ length s) × (c.at ≡ at + n)) (λ f. (length s < at + n) × (f ≡ record { why = ItemCut; at = at }))

-- an item read by r, of so many bytes at least
abbrev pub ItemAt : {A : Type 0} → Reader A → (size : ℕ) → List ℕ → ℕ → Result (A × Cursor) Refusal → Type 0
ItemAt r size s at answer = ReadsAt r (taking size) s at (read_as s answer)

abbrev pub signed_surface_of : ℤ → SignedSurface
signed_surface_of z = record { number = absolute z; negative = negative z }

abbrev pub SignedSurfaceAt : List ℕ → ℕ → Result (SignedSurface × Cursor) Refusal → Type 0
SignedSurfaceAt s at answer = Keeps i2 signed_surface_of (taking 2) s at (read_as s answer)

-- a name, which stands in the slice from the place on
abbrev pub text_as : List ℕ → ℕ → Result (ℕ × Cursor) Refusal → Verdict (Got (List ℕ))
text_as s at (Ok r) = got s (take r.0 (drop at s)) r.1.at
text_as s at (Err f) = fault f.why f.at

abbrev pub TextInside : List ℕ → Result (ℕ × Cursor) Refusal → Type 0
TextInside s (Ok r) = r.1.at ≤ length s
TextInside s (Err f) = Unit

pub record TextAt (s : List ℕ) (at : ℕ) (answer : Result (ℕ × Cursor) Refusal) : Type 0 where
  pub reads : ReadsAt string name_size s at (text_as s at answer)
  pub inside : TextInside s answer

-- ---- entries

-- an entry of so many bytes at least, of which nothing is kept
abbrev pub StepAt : {A : Type 0} → Reader A → (size : ℕ) → List ℕ → ℕ → Result Cursor Refusal → Type 0
StepAt r size s at answer = Keeps r nothing (taking size) s at (step_as s answer)
