-- Where what has a fault starts: "the offset of the first byte of the header, item or string at fault". All that stands before it is read and is fine, and the
-- reading of it begins at its first byte. Nothing here goes by the place that a reader tells.
use Rattle.std.specs.Prelude.{ℕ, suc, ◌+◌, ◌<◌, ◌≡◌, List, [], ◌∷◌, ◌++◌, Bool, true, false, length, ℤ, if◌then◌else◌}
use Rattle.format.specs.declared.Container.{Container}
use Rattle.format.specs.declared.Container.TheVariants.{Blok}
use Rattle.format.specs.declared.Fault.{Fault}
use Rattle.format.specs.declared.Fault.TheVariants.{BadHeader, OutOfOrder, WrongLength, ItemCut, StringOpen, SurfaceValue}
use Rattle.format.specs.Bytes.{empty}
use Rattle.format.specs.Items.{Verdict, fine, Got, Reader, ◌>>=◌, give, ◌or◌unless◌, ◌followed_by◌, up_to, many, item, uint, u2, i2, long, low24, long_form, vx, string}
use Rattle.format.specs.Chunks.{Chunk, header_of, well_formed, chunk_of, reader_of_length, sub}
use Rattle.format.specs.Mesh.{Name}
use Rattle.format.specs.Surfaces.{Value, block_type, block_header, block, attribute, held}
use Rattle.format.specs.Bodies.{Part, name_list, name, names_after, names_body}
use Rattle.format.specs.Rules.{when◌read◌}

-- "Each type, number, float and string is an item": the readers of one item, whatever is asked of its value
pub data OneItem : (A : Type 0) → Reader A → Type 1 where
  unsigned : (n : ℕ) → OneItem ℕ (uint n)
  signed : OneItem ℤ i2
  long_index : OneItem ℕ low24
  index : OneItem ℕ vx
  text : OneItem Name string
  asked : (A : Type 0) (r : Reader A) (why : Fault) (ok : A → Bool) → OneItem A r → OneItem A (r or why unless ok)

-- A reader that begins at the place `at`, with the bytes s from there on, comes to what has the fault `why`, which starts at `place`.
pub data FaultStarts : (A : Type 0) (r : Reader A) (at : ℕ) (s : List ℕ) (why : Fault) (place : ℕ) → Type 1 where
  -- ---- it starts here

  -- "an item (no string) cut by its chunk's end gets 19"
  item_cut : (n : ℕ) {at : ℕ} {s : List ℕ} → length s < n → FaultStarts (List ℕ) (item n) at s ItemCut at
  -- "a string without terminator or zero pad gets 20"
  string_open : {at : ℕ} {s : List ℕ} → ((g : Got Name) → string at s ≡ fine g → ⊥) → FaultStarts Name string at s StringOpen at
  -- an item or string is there, and has a value that is not allowed
  not_allowed : (A : Type 0) (r : Reader A) (why : Fault) (ok : A → Bool) {at : ℕ} {s : List ℕ} (g : Got A) → OneItem A r → r at s ≡ fine g → ok g.value ≡ false
      → FaultStarts A (r or why unless ok) at s why at
  -- a sub-chunk's header is not well formed, or its body has bytes left over: "a wrong body length, a bad pad or BLOK's 15 is its own header's fault"
  bad_header : (A : Type 0) (inside : ℕ → Reader A) {at : ℕ} {s : List ℕ} → well_formed 2 s ≡ false → FaultStarts A (sub inside) at s BadHeader at
  left_over : (A : Type 0) (inside : ℕ → Reader A) {at : ℕ} {s : List ℕ} (c : Got Chunk) (g : Got A) → chunk_of 2 at s ≡ fine c
      → inside c.value.tag (at + 6) c.value.body ≡ fine g → empty g.left ≡ false → FaultStarts A (sub inside) at s WrongLength at
  -- in a body, whose header starts so many bytes before it: its length is not the fixed one, or it is BLOK's and empty
  wrong_length : (A : Type 0) (r : Reader A) (width : ℕ) (ok : ℕ → Bool) {at header : ℕ} {s : List ℕ} → header + (4 + width) ≡ at → ok (length s) ≡ false
      → FaultStarts A (reader_of_length width ok r) at s WrongLength header
  empty_block : (inner : Container → Reader (List Value)) {at header : ℕ} → header + 6 ≡ at → FaultStarts (List Value) (block inner) at [] SurfaceValue header
  -- in the body of BLOK's first sub-chunk, whose header stands between BLOK's own and it
  other_first : (inner : Container → Reader (List Value)) (t : ℕ) {at header : ℕ} {s : List ℕ} → header + 6 + 6 ≡ at → block_type t ≡ false
      → FaultStarts (List Value) (held inner (Blok header) t) at s SurfaceValue header
  -- ---- it starts in a part of what is read

  -- in the first of two, or in the second, where the first is fine
  first : (A B : Type 0) (r : Reader A) (f : A → Reader B) {at p : ℕ} {s : List ℕ} {why : Fault} → FaultStarts A r at s why p
      → FaultStarts B (r >>= f) at s why p
  second : (A B : Type 0) (r : Reader A) (f : A → Reader B) {at p : ℕ} {s : List ℕ} {why : Fault} (g : Got A) → r at s ≡ fine g
      → FaultStarts B (f g.value) g.next g.left why p → FaultStarts B (r >>= f) at s why p
  -- in an item of which more is asked
  asked : (A : Type 0) (r : Reader A) (other : Fault) (ok : A → Bool) {at p : ℕ} {s : List ℕ} {why : Fault} → FaultStarts A r at s why p
      → FaultStarts A (r or other unless ok) at s why p
  -- in the two or four bytes of a VX
  index : {at p : ℕ} {s : List ℕ} {why : Fault} → FaultStarts ℕ (if long s then long_form else u2) at s why p
      → FaultStarts ℕ vx at s why p
  -- in one of several entries, or names
  entry : (A : Type 0) (r : Reader A) (most : ℕ) {at p b : ℕ} {s : List ℕ} {why : Fault} → FaultStarts (List A) (r followed_by up_to most r) at (b ∷ s) why p
      → FaultStarts (List A) (up_to (suc most) r) at (b ∷ s) why p
  entries : (A : Type 0) (r : Reader A) {at p : ℕ} {s : List ℕ} {why : Fault} → FaultStarts (List A) (up_to (length s) r) at s why p
      → FaultStarts (List A) (many r) at s why p
  next_name : (most : ℕ) (earlier : List Name) {at p b : ℕ} {s : List ℕ} {why : Fault}
      → FaultStarts (List Name) (do n ← name earlier; ns ← names_after most (earlier ++ (n ∷ [])); give (n ∷ ns)) at (b ∷ s) why p
      → FaultStarts (List Name) (names_after (suc most) earlier) at (b ∷ s) why p
  names : {at p : ℕ} {s : List ℕ} {why : Fault} → FaultStarts Part (do ns ← names_after (length s) []; give (name_list ns)) at s why p
      → FaultStarts Part names_body at s why p
  -- in a body of the length that it must have, or in a sub-chunk's
  of_length : (A : Type 0) (r : Reader A) (width : ℕ) (ok : ℕ → Bool) {at p : ℕ} {s : List ℕ} {why : Fault} → ok (length s) ≡ true → FaultStarts A r at s why p
      → FaultStarts A (reader_of_length width ok r) at s why p
  in_sub_chunk : (A : Type 0) (inside : ℕ → Reader A) {at p : ℕ} {s : List ℕ} {why : Fault} (c : Got Chunk) → chunk_of 2 at s ≡ fine c
      → FaultStarts A (inside c.value.tag) (at + 6) c.value.body why p → FaultStarts A (sub inside) at s why p
  -- in a block that is not empty, in its first sub-chunk or in a later one
  in_block : (inner : Container → Reader (List Value)) {at p : ℕ} {s : List ℕ} {why : Fault} → empty s ≡ false
      → FaultStarts (List Value) (do vs ← inner (Blok (header_of 2 at)); give []) at s why p → FaultStarts (List Value) (block inner) at s why p
  first_sub : (inner : Container → Reader (List Value)) (t header : ℕ) {at p : ℕ} {s : List ℕ} {why : Fault} → header + 6 + 6 ≡ at
      → FaultStarts (List Value) (block_header inner header t) at s why p → FaultStarts (List Value) (held inner (Blok header) t) at s why p
  later_sub : (inner : Container → Reader (List Value)) (t header : ℕ) {at p : ℕ} {s : List ℕ} {why : Fault} → (header + 6 + 6 ≡ at → ⊥)
      → FaultStarts (List Value) (attribute inner t) at s why p → FaultStarts (List Value) (held inner (Blok header) t) at s why p

-- The same for the body of a top-level chunk that is judged. Places count from its tag; its body starts eight bytes after that.
pub data BodyFaultStarts : (judging : List ℕ → Verdict Part) (body : List ℕ) (why : Fault) (place : ℕ) → Type 1 where
  out_of_order : (r : Reader Part) {body : List ℕ} → BodyFaultStarts (when false read r) body OutOfOrder 0
  left_over : (r : Reader Part) {body : List ℕ} (g : Got Part) → r 8 body ≡ fine g → empty g.left ≡ false → BodyFaultStarts (when true read r) body WrongLength 0
  in_body : (r : Reader Part) {body : List ℕ} {why : Fault} {p : ℕ} → FaultStarts Part r 8 body why p → BodyFaultStarts (when true read r) body why p
