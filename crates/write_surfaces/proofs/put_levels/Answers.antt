-- A sub-chunk whose length is known before it: the levels, and the envelope behind them. It is even.
use Prim.Native.Nat.{ℕ, ◌+◌, ◌*◌, ◌≤◌}
use mathlib.Core.List.{List, [], ◌∷◌, ◌++◌, map}
use native.Mathlib.Omega.{arith}
use lib.ListN.{length}
use Rattle.format.specs.Bytes.{joined}
use Rattle.format.specs.Canonical.{bytes, vx_bytes}
use Rattle.write_surfaces.specs.Surfaces.{levels_bytes}
use Rattle.output.specs.Outputs.{Wrote, head_bytes}
use Rattle.output.proofs.Parts.{PartsLeft, begin, in_two, room, turn, end}
use Rattle.output.proofs.Chunks.{Chunk, head_room, body_room, unpadded}
use Rattle.write_surfaces.proofs.Surfaces.{levels_chunk}
use Rattle.write_surfaces.proofs.put_levels.Goals as goal

-- what is put: the levels behind the head, and then the envelope
module _ (tag : ℕ) (levels : List ℕ) (out : List ℕ) (at : ℕ) (fits : at + length (levels_bytes tag levels) ≤ length out) where
  abbrev words : List ℕ
  words = joined (map (bytes 4) levels)

  whole : Chunk (levels_bytes tag levels) 2 tag (4 * length levels + 2) (words ++ vx_bytes 0) out at
  whole = levels_chunk tag levels fits

  -- the levels and the envelope are left after the head
  headed : {out' : List ℕ} {next : ℕ} → Wrote out at (head_bytes 2 tag (4 * length levels + 2)) out' next
      → PartsLeft (words ++ vx_bytes 0) (words ∷ vx_bytes 0 ∷ []) out' next out' next
  headed put = begin (in_two words (vx_bytes 0)) (body_room whole put)

pub put_sub_head-words-requires : goal.put_sub_head-words-requires
put_sub_head-words-requires c = head_room (whole c.args.tag c.args.levels.now c.args.out.now c.args.at c.requires)

pub put_words-envelope-requires : goal.put_words-envelope-requires
put_words-envelope-requires c = room (headed c.args.tag c.args.levels.now c.args.out.now c.args.at c.requires c.put_sub_head-words.ensures)

pub put_vx-requires : goal.put_vx-requires
put_vx-requires c =
    (omega arith, room (turn (headed c.args.tag c.args.levels.now c.args.out.now c.args.at c.requires c.put_sub_head-words.ensures) c.put_words-envelope.ensures))

pub returns : goal.returns
returns c =
    let put = headed c.args.tag c.args.levels.now c.args.out.now c.args.at c.requires c.put_sub_head-words.ensures in
    unpadded (whole c.args.tag c.args.levels.now c.args.out.now c.args.at c.requires) c.put_sub_head-words.ensures (end (turn (turn put c.put_words-envelope.ensures) c.put_vx.ensures)) (omega arith)
