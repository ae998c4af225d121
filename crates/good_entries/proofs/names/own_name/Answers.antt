-- A name is tested for its length first, and then each byte for zero.
use mathlib.Core.Path.{refl, ◌∙◌}
use mathlib.Core.Bool.{not}
use lib.Dec.{eqb}
use borrow.Author.Rules.{rules}
use borrow.Author.Tests.{tests, lt-leb, le-leb}
use Rattle.std.proofs.lemmas.Iterator.{YieldsList-from_slice}
use Rattle.std.proofs.lemmas.Iterator.Search.{all_from_yields_List}
use Rattle.format.proofs.SameLists.{all_same}
use Rattle.good_entries.proofs.names.own_name.Goals as goal

pub returns-then-name-le-LONGEST : goal.returns-then-name-le-LONGEST
returns-then-name-le-LONGEST c =
    rw (le-leb _ _ c.if-name-le-LONGEST.true)
    (all_from_yields_List (λ b. not (eqb b 0)) _ _ c.all.result c.all.ensures.ran (YieldsList-from_slice c.args.name.now cc) (λ x b q k. search (rules, tests))
    ∙ all_same (λ b. not (eqb b 0)) (λ b. not (eqb b 0)) (λ b. refl) c.args.name.now)

pub returns-else-name-le-LONGEST : goal.returns-else-name-le-LONGEST
returns-else-name-le-LONGEST c = rw (lt-leb _ _ c.if-name-le-LONGEST.false)
