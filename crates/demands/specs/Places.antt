-- Where a file's chunks stand, which of them is at fault, and where in it the fault lies.
use Rattle.std.specs.Prelude.{ℕ, ◌+◌, ◌≤◌, ◌<◌, ◌≡◌, List, true, false, length, drop, if◌then◌else◌}
use Rattle.format.specs.declared.Kind.{Kind}
use Rattle.format.specs.declared.Fault.{Fault}
use Rattle.format.specs.declared.Fault.TheVariants.{BadHeader}
use Rattle.format.specs.Refusals.{number_of, place_of}
use Rattle.format.specs.Items.{Verdict, fine, fault, ◌and_then◌, Got}
use Rattle.format.specs.Chunks.{Chunk, size_of, length_of, well_formed, chunk_of}
use Rattle.format.specs.Bodies.{Part}
use Rattle.format.specs.Rules.{Before, start, after, judge, form}
use Rattle.laws.specs.FaultStarts.{BodyFaultStarts}

-- The first boundary is at 12, after the type, and each next one where a well-formed chunk ends. At a boundary another chunk starts, or the file ends.
pub data Boundary (file : List ℕ) : ℕ → Type 0 where
  first : Boundary file 12
  next : {place : ℕ} → Boundary file place → well_formed 4 (drop place file) ≡ true → Boundary file (place + size_of 4 (length_of 4 (drop place file)))

-- The chunk that starts at the front of s, after what stands before it: "A chunk's tag, length and pad are judged together (4), then 5", and then its body.
unfoldable pub chunk_judged : Kind → Before → List ℕ → Verdict Part
chunk_judged kind b s = chunk_of 4 0 s and_then λ c. judge kind b c.value.tag c.value.body

-- all chunks from the first up to a boundary are fine, and leave b for the chunk that stands there
pub data FineUpTo (kind : Kind) (file : List ℕ) : (place : ℕ) → Before → Type 0 where
  first : FineUpTo kind file 12 start
  next : {place : ℕ} {b : Before} {part : Part} → FineUpTo kind file place b → chunk_judged kind b (drop place file) ≡ fine part
      → FineUpTo kind file (place + size_of 4 (length_of 4 (drop place file))) (after b part)

-- In a chunk that starts at the front of s the header, item or string that has a fault starts so many bytes after its tag.
pub data StartsAt (kind : Kind) (b : Before) (s : List ℕ) : (why : Fault) (at : ℕ) → Type 1 where
  -- its own header: "header cut, tag byte outside 32..126, length past the parent's end, pad byte missing or not zero"
  header : well_formed 4 s ≡ false → StartsAt kind b s BadHeader 0
  -- the header is well formed, and the body ends where it says
  inside : {why : Fault} {at : ℕ} (c : Got Chunk) → chunk_of 4 0 s ≡ fine c → BodyFaultStarts (judge kind b c.value.tag) c.value.body why at
      → StartsAt kind b s why at

-- where a chunk's body ends; of a chunk that is not well formed only its tag is known
abbrev pub end_of : (file : List ℕ) (chunk : ℕ) → ℕ
end_of file chunk = if well_formed 4 (drop chunk file) then chunk + 8 + length_of 4 (drop chunk file) else chunk

-- "the offset of the first byte of the header, item or string at fault", of the first chunk that has a fault
pub record AtFault (file : List ℕ) (number place : ℕ) : Type 1 where
  pub kind : Kind
  pub of_kind : form file ≡ fine kind
  pub chunk : ℕ
  pub inside : chunk < length file
  pub before : Before
  pub earlier : FineUpTo kind file chunk before
  pub why : Fault
  pub at : ℕ
  -- the number and the place are the rules' own
  pub faulty : chunk_judged kind before (drop chunk file) ≡ fault why at
  pub number_is : number ≡ number_of why
  pub place_is : place ≡ place_of chunk at
  -- the place lies within the chunk at fault, from its tag to its end: at the end an item or string would start that is not there at all
  pub from_tag : chunk ≤ place
  pub to_end : place ≤ end_of file chunk
  pub in_file : end_of file chunk ≤ length file
  -- and what has the fault starts there
  pub starts : StartsAt kind before (drop chunk file) why at
