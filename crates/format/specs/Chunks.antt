-- Chunks: "a tag, a U4 length, the body, and a zero pad byte if the length is odd". "A sub-chunk has a U2 length."
use Rattle.std.specs.Prelude.{ℕ, zero, suc, ◌+◌, ◌-◌, ◌%◌, List, [], ◌∷◌, Bool, length, take, drop, leb, eqb, if◌then◌else◌}
use Rattle.format.specs.declared.Fault.TheVariants.{BadHeader, WrongLength}
use Rattle.format.specs.Bytes.{between, number, every, all}
use Rattle.format.specs.Items.{Verdict, fine, fault, ◌and_then◌, Got, Reader, give, whole}

pub record Chunk : Type 0 where
  pub tag : ℕ
  pub body : List ℕ

-- A chunk's length has `width` bytes: four or, in a sub-chunk, two. The whole of it, with its header and its pad, is so long:
unfoldable pub size_of : (width n : ℕ) → ℕ
size_of width n = 4 + width + n + n % 2

unfoldable pub length_of : (width : ℕ) → List ℕ → ℕ
length_of width s = number (take width (drop 4 s))

-- "It is well formed where 4 finds no fault in it, whatever its body holds." 4: "header cut, tag byte outside 32..126, length past the parent's end, pad byte
-- missing or not zero"
unfoldable pub well_formed : (width : ℕ) → List ℕ → Bool
well_formed width s =
    every
    (leb (4 + width) (length s)
    ∷ all (between 32 126) (take 4 s)
    ∷ leb (size_of width (length_of width s)) (length s)
    ∷ all (eqb 0) (take (length_of width s % 2) (drop (4 + width + length_of width s) s))
    ∷ [])

unfoldable pub chunk_of : (width : ℕ) → Reader Chunk
chunk_of width at s =
    let n = length_of width s in
    let size = size_of width n in
    if well_formed width s then give (record { tag = number (take 4 s); body = take n (drop (4 + width) s) }) (at + size) (drop size s) else fault BadHeader at

-- the place of a chunk's header, from that of its body
abbrev pub header_of : (width at : ℕ) → ℕ
header_of width at = at - (4 + width)

-- "then a fixed body length or PNTS's own length rules (6), then the body"
unfoldable pub reader_of_length : {A : Type 0} → (width : ℕ) (ok : ℕ → Bool) → Reader A → Reader A
reader_of_length width ok r at s = if ok (length s) then r at s else fault WrongLength (header_of width at)

-- ---- the top level

-- "Chunks tile the FORM exactly after the type": up to its end, or up to where no well-formed chunk stands
pub data Chunks : Type 0 where
  finished : Chunks
  broken : Chunks
  chunk : (tag : ℕ) (body : List ℕ) (rest : Chunks) → Chunks

unfoldable pub link : (List ℕ → Chunks) → Verdict (Got Chunk) → Chunks
link go (fine c) = chunk c.value.tag c.value.body (go c.left)
link go (fault why at) = broken

-- a chunk takes a byte at least, so the length bounds their number
unfoldable pub split : (most : ℕ) → List ℕ → Chunks
split zero s = finished
split (suc most) [] = finished
split (suc most) (b ∷ s) = link (split most) (chunk_of 4 0 (b ∷ s))

unfoldable pub chunks : List ℕ → Chunks
chunks s = split (length s) s

-- ---- sub-chunks

-- A sub-chunk whose body is read as its tag says. As a chunk's, its "tag, length and pad are judged together (4)", before its body: "Sub-chunks likewise."
-- "sub-chunks tile their parent": many of these.
unfoldable pub sub : {A : Type 0} → ((tag : ℕ) → Reader A) → Reader A
sub inside at s = chunk_of 2 at s and_then λ c. whole at (inside c.value.tag) (at + 6) c.value.body and_then λ a. give a c.next c.left

abbrev pub fixed : {A : Type 0} → ℕ → Reader A → Reader A
fixed n r = reader_of_length 2 (eqb n) r

-- what "isn't judged"
unfoldable pub unjudged : {A : Type 0} → A → Reader A
unjudged a at s = give a (at + length s) []
