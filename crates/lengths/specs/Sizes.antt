-- How many bytes the parts of a canonical file take, by the numbers that the tables hold.
use Rattle.std.specs.Prelude.{ℕ, ◌+◌, ◌≤◌, ◌≡◌, List, [], ◌∷◌, eqb, if◌then◌else◌}
use Rattle.format.specs.Items.{string_size}
use Rattle.format.specs.Chunks.{size_of}

-- a counted size, and a bound that keeps sums of sizes from wrapping
pub record Counted (r size most : ℕ) : Type 0 where
  pub size_is : r ≡ size
  pub few : r ≤ most

-- "Empty chunks are left out."
unfoldable pub unless_none : (count n : ℕ) → ℕ
unless_none count n = if eqb count 0 then 0 else size_of 4 n

-- ---- surfaces

-- a SURF is written for a defined name: its name, and 90 bytes that are the same for all
abbrev pub surface_size : (defined length : ℕ) → ℕ
surface_size defined length = if eqb defined 1 then size_of 4 (string_size length + 90) else 0

unfoldable pub surfaces_size : (lengths defined : List ℕ) → ℕ
surfaces_size [] ds = 0
surfaces_size (n ∷ ns) [] = 0
surfaces_size (n ∷ ns) (d ∷ ds) = surface_size d n + surfaces_size ns ds
