-- A sub-chunk of two bytes, which has no pad.
use mathlib.Core.Path.{refl}
use Rattle.format.specs.Bytes.{number, tag_number}
use Rattle.format.specs.Canonical.{bytes, chunk_bytes}
use Rattle.format.proofs.CanonicalLengths.{length_bytes}
use Rattle.output.proofs.Chunks.{Chunk, head_room, body_room, unpadded, chunk_is}
use Rattle.write_surfaces.proofs.put_sides.Goals.{Start}
use Rattle.write_surfaces.proofs.put_sides.Goals as goal

whole : (s : Start)
    → Chunk (chunk_bytes 2 "SIDE" (bytes 2 s.args.sides)) 2 (tag_number "SIDE") 2 (bytes 2 s.args.sides) s.args.out.now s.args.at
unfolding bytes number
whole s = record { is = rw (length_bytes 2 s.args.sides) at (chunk_is 2 (tag_number "SIDE") "SIDE" (bytes 2 s.args.sides) refl); fits = s.requires }

pub put_sub_head-next-requires : goal.put_sub_head-next-requires
unfolding number
put_sub_head-next-requires c = head_room (whole (goal.at.put_sub_head-next-requires c).Start)

pub put_u2-requires : goal.put_u2-requires
unfolding number
put_u2-requires c =
    rw length_bytes at (body_room (whole (goal.at.put_u2-requires c).Start) c.put_sub_head-next.ensures)

pub returns : goal.returns
unfolding number
returns c =
    unpadded (whole (goal.at.returns c).Start) c.put_sub_head-next.ensures c.put_u2.ensures refl
