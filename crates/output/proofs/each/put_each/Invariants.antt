-- Each item is put behind those before it.
use mathlib.Core.List.{map}
use lib.ListN.{drop}
use Rattle.format.specs.Bytes.{joined}
use Rattle.output.proofs.PutSoFar.{PutSoFar}
use Rattle.output.proofs.each.put_each.Given as goal

abbrev pub invariant-loop-word : goal.invariant-loop-word
invariant-loop-word g l = PutSoFar (joined (map g.I.Item.item l.words)) (joined (map g.I.Item.item (drop l.word-index l.words))) l.initial.out l.at l.out l.next
