-- A polygon whose number is 0 has no pair; else its index is put, and its tag behind it.
use Prim.Native.Nat.{◌-◌}
use native.Mathlib.Omega.{arith}
use Rattle.format.proofs.CanonicalLengths.{length_bytes}
use Rattle.output.proofs.PutSoFar.{then_wrote}
use Rattle.mesh.proofs.Pairs.{a_pair, pair_parts}
use Rattle.write_runs.proofs.pairs.put_pair.Goals as goal

pub put_vx-next-requires : goal.put_vx-next-requires
put_vx-next-requires c =
    let some = c.if-number-eq0.false in
    (c.requires.0, omega (arith, pair_parts c.args.i c.args.number some, length_bytes 2 (c.args.number - 1), c.requires.1))

pub put_u2-requires : goal.put_u2-requires
put_u2-requires c =
    let some = c.if-number-eq0.false in
    omega (arith, pair_parts c.args.i c.args.number some, length_bytes 2 (c.args.number - 1), c.requires.1, c.put_vx-next.ensures.next_is, c.put_vx-next.ensures.kept)

pub returns : goal.returns
returns c =
    let some = c.if-number-eq0.false in
    rw (a_pair c.args.i c.args.number some) (then_wrote c.put_vx-next.ensures c.put_u2.ensures (omega (arith, pair_parts c.args.i c.args.number some, length_bytes 2 (c.args.number - 1), c.requires.1)))
