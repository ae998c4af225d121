-- The chain asks the test of each word.
use mathlib.Core.Path.{refl, ◌∙◌}
use borrow.Author.Rules.{rules}
use borrow.Author.Tests.{tests}
use Rattle.std.proofs.lemmas.Iterator.{YieldsList-from_slice}
use Rattle.std.proofs.lemmas.Iterator.Search.{all_from_yields_List}
use Rattle.format.specs.Bytes.{finite}
use Rattle.format.proofs.SameLists.{all_same}
use Rattle.good_entries.proofs.floats.all_finite.Goals as goal

pub returns : goal.returns
returns c =
    all_from_yields_List finite _ _ c.all.result c.all.ensures.ran (YieldsList-from_slice c.args.words.now cc) (λ x b q k. search (rules, tests))
    ∙ all_same finite finite (λ w. refl) c.args.words.now
