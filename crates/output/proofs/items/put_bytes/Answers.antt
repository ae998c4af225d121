-- Each byte is put behind those before it.
use native.Mathlib.Omega.{arith}
use Rattle.output.proofs.PutSoFar.{byte_more, wrote_none, a_byte, room, turn}
use Rattle.output.proofs.items.put_bytes.Goals as goal

pub loop-i-preserved : goal.loop-i-preserved
loop-i-preserved c =
    let more = byte_more _ _ c.loop-i-test.true in
    turn c.loop-i.invariant more (a_byte wrote_none _ (omega (arith, room c.loop-i.invariant more)) (omega arith))
