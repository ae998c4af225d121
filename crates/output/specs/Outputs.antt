-- What is put into a lent output.
use Rattle.std.specs.Prelude.{ℕ, ◌+◌, ◌%◌, ◌≡◌, List, ◌++◌, map, length, replicate}
use Prim.Native.String.{String}
use Rattle.format.specs.Bytes.{joined}
use Rattle.format.specs.Canonical.{bytes, encoded}
use Rattle.format.specs.Promises.{Put}

-- the output after `ws` was put into it from a place on; `next` is the place after them
pub record Wrote (before : List ℕ) (at : ℕ) (ws after : List ℕ) (next : ℕ) : Type 0 where
  pub put : Put before at ws after
  pub next_is : next ≡ at + length ws
  pub kept : length after ≡ length before

-- ---- chunks

-- chunks as they stand in the file
abbrev pub chunks_bytes : List (String × List ℕ) → List ℕ
chunks_bytes cs = joined (map encoded cs)

-- a tag by its number, and the length of a body
abbrev pub head_bytes : (width tag n : ℕ) → List ℕ
head_bytes width tag n = bytes 4 tag ++ bytes width n

-- a chunk by the number of its tag
abbrev pub tagged_bytes : (width tag : ℕ) → List ℕ → List ℕ
tagged_bytes width tag body = head_bytes width tag (length body) ++ (body ++ replicate (length body % 2) 0)
