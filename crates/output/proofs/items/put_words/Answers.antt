-- Every word has four bytes.
use Rattle.output.proofs.PutSoFar.{no_test}
use Rattle.output.proofs.items.put_words.Goals as goal

pub put_each-requires : goal.put_each-requires
put_each-requires c = (no_test c.args.words.now, c.requires)
