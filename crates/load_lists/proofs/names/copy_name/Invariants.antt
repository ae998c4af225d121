-- Each turn puts one byte more, after those before it.
use Rattle.load_lists.proofs.PutBytes.{BytesCopied}
use Rattle.load_lists.proofs.names.copy_name.Given as goal

abbrev pub invariant-loop-i : goal.invariant-loop-i
invariant-loop-i l = BytesCopied l.from l.i l.to
