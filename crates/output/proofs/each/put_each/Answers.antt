-- Each item is put behind those before it.
use Rattle.output.proofs.PutSoFar.{holds_at, room, turn, end, joined_more, joined_none}
use Rattle.output.proofs.each.put_each.Goals as goal

pub put-next-requires : goal.put-next-requires
put-next-requires g c =
    let ws = c.args.words.now in
    (holds_at g.I.Item.holds ws _ c.requires.0 c.loop-word-test.true, room c.loop-word.invariant (joined_more g.I.Item.item ws c.loop-word.word-index c.loop-word-test.true))

pub loop-word-preserved : goal.loop-word-preserved
loop-word-preserved g c =
    turn c.loop-word.invariant (joined_more g.I.Item.item _ _ c.loop-word-test.true) c.put-next.ensures

pub returns : goal.returns
returns g c = end c.loop-word.invariant (joined_none g.I.Item.item _ _ c.loop-word-test.false)
