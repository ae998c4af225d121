-- A walk over one word of each entry: what was added so far and the sum of those that are left make the sum.
use Prim.Native.Nat.{ℕ, ◌+◌, ◌*◌, ◌≤◌, ◌^◌}
use mathlib.Core.Path.{◌≡◌}
use mathlib.Core.List.{List}
use Rattle.format.specs.Bytes.{sum}
use Rattle.mesh.specs.Lent.{column}
use Rattle.mesh.proofs.ColumnWalk.{ColumnWalk, passed}
use Rattle.mesh.proofs.columns.sum_of.Given as goal

-- `few` keeps the total from wrapping
pub record SumLeft (goal total at : ℕ) (xs : List ℕ) : Type 0 where
  pub few : total ≤ at * 2 ^ 32
  pub so : goal ≡ total + sum xs

abbrev pub invariant-loop-entry : goal.invariant-loop-entry
invariant-loop-entry l = ColumnWalk l.words l.size l.index (SumLeft (sum (column l.size l.index l.words)) l.total (passed l.words l.entry-iterator)) l.entry-iterator
