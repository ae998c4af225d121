-- Any word has four bytes.
use native.Mathlib.Omega.{arith}
use Rattle.format.proofs.CanonicalLengths.{length_bytes}
use Rattle.output.proofs.each.U4Item.put.Goals as goal

pub put_u4-requires : goal.put_u4-requires
put_u4-requires c = omega (arith, c.requires.1, length_bytes 4 c.args.word)
