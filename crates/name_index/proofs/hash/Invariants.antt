-- The bytes before the index are in the hash, and those after it are still to be mixed in.
use mathlib.Core.Path.{◌≡◌}
use mathlib.Core.List.{foldl}
use lib.ListN.{drop}
use Rattle.name_index.specs.Index.{mixed, hash_of}
use Rattle.name_index.proofs.hash.Given as goal

abbrev pub invariant-loop-b : goal.invariant-loop-b
invariant-loop-b l = foldl (mixed l.multiplier) l.h (drop l.b-index l.bytes) ≡ hash_of l.multiplier l.bytes
