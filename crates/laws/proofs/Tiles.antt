-- Bytes that are whole chunks, one after the other: the rules find just these chunks in them, and then those of what stands behind.
use Prim.Native.Nat.{ℕ}
use mathlib.Core.Path.{◌≡◌, refl}
use mathlib.Core.List.{List, [], ◌∷◌, ◌++◌, append_assoc}
use Rattle.format.specs.Bytes.{joined}
use Rattle.format.specs.Chunks.{Chunk, chunk_of, Chunks, chunk, chunks}
use Rattle.format.proofs.Tiling as tiling
use Rattle.laws.proofs.Reading.{ReadsAs, Row, none, more}

-- the chunks cs, and then others
unfoldable pub in_front : List Chunk → Chunks → Chunks
in_front [] rest = rest
in_front (c ∷ cs) rest = chunk c.tag c.body (in_front cs rest)

-- ---- what chunks stand in some bytes

pub next_chunk : {w : List ℕ} {c : Chunk} → ReadsAs (chunk_of 4) w c → (rest : List ℕ) → chunks (w ++ rest) ≡ chunk c.tag c.body (chunks rest)
next_chunk {w = w} h rest = tiling.next_chunk 0 (w ++ rest) _ (h.here 0 rest)

pub chunks_row : {ws : List (List ℕ)} {cs : List Chunk} → Row (chunk_of 4) ws cs → (rest : List ℕ) → chunks (joined ws ++ rest) ≡ in_front cs (chunks rest)
unfolding in_front joined
chunks_row none rest = refl
chunks_row (more {w = w} {ws = ws} h some row) rest = rw (append_assoc w (joined ws) rest, next_chunk h (joined ws ++ rest), chunks_row row rest)
