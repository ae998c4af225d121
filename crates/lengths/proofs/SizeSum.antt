-- A loop that adds sizes up: what was added so far, and the size of what is left.
use Prim.Native.Nat.{ℕ, ◌+◌, ◌<◌, ◌≤◌}
use mathlib.Core.Path.{◌≡◌, refl}
use mathlib.Core.List.{List, [], ◌∷◌, ◌++◌, map}
use native.Mathlib.Omega.{arith}
use lib.ListN.{length, get_or, drop, length-append}
use Rattle.format.specs.Bytes.{sum, joined}
use Rattle.format.specs.Mesh.{word, record_size}
use Rattle.mesh.specs.Lent.{column}
use Rattle.format.proofs.Indexed.{at_index, past_end}
use Rattle.mesh.proofs.ColumnWalk.{entries_next}
use Rattle.format.specs.Promises.{total}
use Rattle.lengths.specs.Sizes.{Counted, surface_size, surfaces_size}

pub record SizeSum (goal so_far rest most : ℕ) : Type 0 where
  pub so : goal ≡ so_far + rest
  pub few : so_far ≤ most

pub begin : {goal most : ℕ} → SizeSum goal 0 goal most
begin = record { so = omega arith; few = omega arith }

module _ {goal so_far rest most : ℕ} (w : SizeSum goal so_far rest most) where
  pub turn : {r x more most' : ℕ} → rest ≡ x + more → r ≡ x → so_far + r ≤ most' → SizeSum goal (so_far + r) more most'
  turn next is few = record { so = omega (arith, w.so); few = few }

  pub end : {bound : ℕ} → rest ≡ 0 → most ≤ bound → Counted so_far goal bound
  end none few = record { size_is = omega (arith, w.so); few = omega (arith, w.few) }

-- ---- lists that are walked by an index

module _ (xs : List ℕ) (i : ℕ) where
  pub total_more : (f : ℕ → List ℕ) → i < length xs → total f (drop i xs) ≡ length (f (get_or xs i 0)) + total f (drop (i + 1) xs)
  unfolding joined
  total_more f inside = rw (at_index xs i inside) (length-append (f (get_or xs i 0)) (joined (map f (drop (i + 1) xs))))

  pub total_none : (f : ℕ → List ℕ) → length xs ≤ i → total f (drop i xs) ≡ 0
  unfolding joined
  total_none f outside = rw (past_end xs i outside)

  pub sum_more : (f : ℕ → ℕ) → i < length xs → sum (map f (drop i xs)) ≡ f (get_or xs i 0) + sum (map f (drop (i + 1) xs))
  unfolding sum
  sum_more f inside = rw (at_index xs i inside)

  pub sum_none : (f : ℕ → ℕ) → length xs ≤ i → sum (map f (drop i xs)) ≡ 0
  unfolding sum
  sum_none f outside = rw (past_end xs i outside)

-- a name and its record
pub surfaces_more : {ns ws : List ℕ} (n : ℕ) (later : List ℕ) (x more : List ℕ) → ns ≡ n ∷ later → ws ≡ x ++ more → length x ≡ record_size
    → surfaces_size ns (column record_size 0 ws) ≡ surface_size (word 0 x) n + surfaces_size later (column record_size 0 more)
unfolding surfaces_size
surfaces_more n later x more first next long = rw (first, next, entries_next record_size x more (omega arith) long)

pub surfaces_none : (ws : List ℕ) → surfaces_size [] (column record_size 0 ws) ≡ 0
unfolding surfaces_size
surfaces_none ws = refl
