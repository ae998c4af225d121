-- What the answers on headers say, in the specification's words. `s` is the lent slice, and `at` the place that was read at.
use Rattle.std.specs.Prelude.{ℕ, ◌+◌, ◌≤◌, List, length, take, drop, Result, Ok, Err}
use Rattle.format.specs.Items.{Verdict, fault, Got}
use Rattle.format.specs.Chunks.{Chunk, chunk_of}
use Rattle.format.specs.Promises.{got, ReadsAt, taking}
use Rattle.wire.specs.declared.Refusal.{Refusal}
use Rattle.headers.specs.declared.Header.{Header}

-- A chunk's body is lent as the slice up to its end, `&s[..end]`, so that its places stay what they are.
abbrev pub header_as : (width : ℕ) → List ℕ → ℕ → Result Header Refusal → Verdict (Got Chunk)
header_as width s at (Ok h) = got s (record { tag = h.tag; body = drop (at + (4 + width)) (take h.end s) }) h.next.at
header_as width s at (Err f) = fault f.why f.at

abbrev pub HeaderInside : (width : ℕ) → List ℕ → ℕ → Result Header Refusal → Type 0
HeaderInside width s at (Ok h) = (at + (4 + width) ≤ h.end) × (h.end ≤ h.next.at) × (h.next.at ≤ length s)
HeaderInside width s at (Err f) = Unit

pub record HeaderAt (width : ℕ) (s : List ℕ) (at : ℕ) (answer : Result Header Refusal) : Type 0 where
  pub reads : ReadsAt (chunk_of width) (taking (4 + width)) s at (header_as width s at answer)
  pub inside : HeaderInside width s at answer
