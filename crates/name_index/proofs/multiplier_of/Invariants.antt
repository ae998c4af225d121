-- The bytes before the index are in the second hash, and those after it are still to be mixed in.
use mathlib.Core.Path.{◌≡◌}
use mathlib.Core.List.{foldl}
use lib.ListN.{drop}
use Rattle.name_index.specs.Index.{mixed_again, multiplier_of}
use Rattle.name_index.proofs.multiplier_of.Given as goal

abbrev pub invariant-loop-b : goal.invariant-loop-b
invariant-loop-b l = foldl mixed_again l.h (drop l.b-index l.list) ≡ multiplier_of l.list
