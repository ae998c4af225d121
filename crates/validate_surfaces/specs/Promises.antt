-- What the answers on the nesting say, in the specification's words. They hold whatever reads the sub-chunks on the level below, `inner`.
use Rattle.std.specs.Prelude.{ℕ, ◌+◌, ◌≤◌, List, length, take, drop, Result, Ok, Err, Option, Some, None}
use Rattle.format.specs.declared.Container.{Container}
use Rattle.format.specs.Items.{Verdict, fine, fault, ◌and_then◌, Got, Reader, whole}
use Rattle.format.specs.Chunks.{sub}
use Rattle.format.specs.Surfaces.{Value as Words, held, nested}
use Rattle.format.specs.Promises.{got, nothing, Says, JudgedAt}
use Rattle.wire.specs.declared.Refusal.{Refusal}
use Rattle.wire.specs.Promises.{verdict_as}
use Rattle.validate_surfaces.specs.declared.nesting.Below.{Below}
use Rattle.validate_surfaces.specs.declared.nesting.JudgedSubChunk.{JudgedSubChunk}

abbrev pub Inner : Type 0
Inner = Container → Reader (List Words)

-- ---- a body

-- what is judged of the sub-chunks that a body holds, if it holds any
abbrev pub below_as : Inner → (head : ℕ) → List ℕ → Option Below → Verdict (Unit {0})
below_as inner head s None = fine tt
below_as inner head s (Some h) = whole head (inner h.inner) h.from.at (drop h.from.at s) and_then λ vs. fine tt

-- what is judged of a body whose header stands at `head`
abbrev pub body_as : Inner → (head : ℕ) → List ℕ → Result (Option Below) Refusal → Verdict (Unit {0})
body_as inner head s (Ok below) = below_as inner head s below
body_as inner head s (Err f) = fault f.why f.at

pub record BodyAt (r : Inner → Reader (List Words)) (head : ℕ) (s : List ℕ) (answer : Result (Option Below) Refusal) : Type 0 where
  pub judged : (inner : Inner) → JudgedAt head (head + 6) (r inner) nothing s (body_as inner head s answer)

-- ---- a sub-chunk

abbrev pub sub_chunk_as : Inner → List ℕ → (at : ℕ) → Result JudgedSubChunk Refusal → Verdict (Got (Unit {0}))
sub_chunk_as inner s at (Ok c) = below_as inner at (take c.end s) c.below and_then λ u. got s tt c.next.at
sub_chunk_as inner s at (Err f) = fault f.why f.at

abbrev pub Inside : List ℕ → (at : ℕ) → Result JudgedSubChunk Refusal → Type 0
Inside s at (Ok c) = (at + 6 ≤ c.next.at) × (c.end ≤ length s)
Inside s at (Err f) = Unit

pub record SubChunkAt (c : Container) (s : List ℕ) (at : ℕ) (answer : Result JudgedSubChunk Refusal) : Type 0 where
  pub says : (inner : Inner) → Says (sub (held inner c)) nothing s at (sub_chunk_as inner s at answer)
  pub inside : Inside s at answer

-- ---- a level

-- "sub-chunks tile their parent": nothing is left over, whatever header the parent has
pub record NestedAt (depth : ℕ) (c : Container) (s : List ℕ) (at : ℕ) (answer : Result (Unit {0}) Refusal) : Type 0 where
  pub judged : (header : ℕ) → JudgedAt header at (nested depth c) nothing s (verdict_as answer)
