-- The records are as the SURFs that were passed leave them (`SurfacesWalk`).
use Rattle.headers.proofs.FileWalk as walk
use Rattle.load_surface_chunks.proofs.SurfacesWalk.{walk_begin, listed_room, turn, all_put}
use Rattle.load_surface_chunks.proofs.chunks.put_surfaces.Goals as goal

pub loop-at-init : goal.loop-at-init
loop-at-init c = walk_begin c.requires.succeeds c.requires.listed_room

pub returns-in_default : goal.returns-in_default
returns-in_default c = absurd (walk.never_bad c.loop-at.invariant.walked c.loop-at-test.true c.in_default.ensures)

pub put_chunk-requires : goal.put_chunk-requires
put_chunk-requires c =
    let k = c.loop-at.invariant in
    let this = walk.chunk_here k.walked c.in-Ok.ensures in
    record {
      chunk_sound = record { before = k.walked.before; part = this.part; sound = this.here };
      listed_room = listed_room k;
      may_be_indexed = c.requires.may_be_indexed;
    }

pub loop-at-preserved : goal.loop-at-preserved
loop-at-preserved c =
    let k = c.loop-at.invariant in
    turn k (walk.chunk_here k.walked c.in-Ok.ensures) c.put_chunk.ensures

pub returns : goal.returns
returns c = all_put c.loop-at.invariant c.loop-at-test.false
