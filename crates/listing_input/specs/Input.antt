-- Which bytes of an input were read.
use Rattle.std.specs.Prelude.{ℕ, ◌<◌, List, Option, Result, Ok, Err, length, take}
use Rattle.std.specs.Io.KnownBytes.{Consumes, IsAtEnd}

-- the bytes that a reader had left and has left, where they are known: what stands in front of the buffer was taken from it, and the input ended where the buffer is not full
abbrev pub InputEnds : {E : Type 0} → (had has : Option (List ℕ)) → (buffer : List ℕ) → Result ℕ E → Type 0
InputEnds had has buffer (Ok n) = Consumes had has (take n buffer) × (n < length buffer → IsAtEnd has)
InputEnds had has buffer (Err _) = Unit
