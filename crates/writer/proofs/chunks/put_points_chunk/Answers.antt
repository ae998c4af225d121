-- The body is the words of the points; its chunk is closed around it.
use Prim.Native.Nat.{ℕ, ◌+◌, ◌≤◌}
use lib.ListN.{length}
use mathlib.Core.Path.{◌≡◌, refl, ◌∙◌}
use mathlib.Core.List.{List, map}
use Rattle.format.specs.Bytes.{number, tag_number, joined}
use Rattle.format.specs.Canonical.{bytes, unless_empty}
use Rattle.output.specs.Outputs.{chunks_bytes}
use Rattle.output.proofs.PutSoFar.{wrote_none}
use Rattle.output.proofs.Chunks.{BodyFirst, first_room, close_room, closed, chunk_is, left_out, put_in}
use Rattle.writer.proofs.chunks.put_points_chunk.Goals as goal

module _ (ws : List ℕ) (some : length ws ≡ 0 → ⊥) (out : List ℕ) (at : ℕ) (fits : at + length (chunks_bytes (unless_empty "PNTS" "" (bytes 4) ws)) ≤ length out) where
  whole : BodyFirst (chunks_bytes (unless_empty "PNTS" "" (bytes 4) ws)) (tag_number "PNTS") (joined (map (bytes 4) ws)) out at
  unfolding bytes number
  whole = record { is = put_in "PNTS" "" (bytes 4) ws some ∙ chunk_is 4 (tag_number "PNTS") "PNTS" (joined (map (bytes 4) ws)) refl; fits = fits }

pub returns-then-points-eq0 : goal.returns-then-points-eq0
returns-then-points-eq0 c = rw (left_out "PNTS" "" (bytes 4) c.args.points.now c.if-points-eq0.true) wrote_none

pub put_words-end-requires : goal.put_words-end-requires
put_words-end-requires c = first_room (whole c.args.points.now c.if-points-eq0.false c.args.out.now c.args.at c.requires)

pub close_chunk-requires : goal.close_chunk-requires
close_chunk-requires c =
    close_room (whole c.args.points.now c.if-points-eq0.false c.args.out.now c.args.at c.requires) c.put_words-end.ensures

pub returns : goal.returns
unfolding number
returns c =
    closed (whole c.args.points.now c.if-points-eq0.false c.args.out.now c.args.at c.requires) c.put_words-end.ensures c.close_chunk.ensures
