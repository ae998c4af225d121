-- A SURF that was judged fine starts with its name, so the string is there, and any other chunk has no surface (`SurfaceChunk`).
use borrow.Author.Tests.{eq-eqb, ne_eqb}
use Rattle.format.specs.Bytes.{number}
use Rattle.load_surface_chunks.proofs.SurfaceChunk.{put_nothing, sound_body, never_open, put_surface}
use Rattle.load_surface_chunks.proofs.chunks.put_chunk.Goals as goal

pub returns-then-tag-ne-SURF : goal.returns-then-tag-ne-SURF
unfolding number
returns-then-tag-ne-SURF c = put_nothing (ne_eqb _ _ c.if-tag-ne-SURF.true)

pub returns-in_default : goal.returns-in_default
unfolding number
returns-in_default c = absurd (never_open (eq-eqb _ _ c.if-tag-ne-SURF.false) c.requires.chunk_sound c.in_default.ensures)

pub record_of-r-requires : goal.record_of-r-requires
unfolding number
record_of-r-requires c = sound_body (eq-eqb _ _ c.if-tag-ne-SURF.false) c.requires.chunk_sound

pub returns : goal.returns
unfolding number
returns c = put_surface (eq-eqb _ _ c.if-tag-ne-SURF.false) c.in-Ok.ensures c.record_of-r.ensures c.put_record.ensures
