-- The head ends where the body begins, and the pad begins where it ends, so the body between them is as it was.
use Rattle.output.proofs.Chunks.{around_head, around_pad, around}
use Rattle.output.proofs.heads.close_chunk.Goals as goal

pub put_head-requires : goal.put_head-requires
put_head-requires c =
    around_head c.args.out.now c.args.at c.args.tag c.args.end c.requires

pub put_pad-requires : goal.put_pad-requires
put_pad-requires c =
    around_pad c.args.out.now c.args.at c.args.tag c.args.end c.requires c.put_head.ensures

pub returns : goal.returns
returns c =
    around c.args.out.now c.args.at c.args.tag c.args.end c.requires c.put_head.ensures c.put_pad.ensures
