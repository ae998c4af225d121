-- Names of which no two are equal, told by passes over their table. `ns` has their lengths, and `bytes` their bytes.
use Rattle.std.specs.Prelude.{ℕ, ◌+◌, ◌<◌, ◌≡◌, true, false, Option, Some, None, List, [], length, drop}
use Rattle.format.specs.Bytes.{all, sum}
use Rattle.format.specs.Mesh.{Name}
use Rattle.format.specs.Written.{pieces}
use Rattle.name_index.specs.Index.{all_new}
use Rattle.good_entries.specs.Entries.{own_name}

-- ---- the names from number i on, which stands at a place

abbrev pub names_from : (ns bytes : List ℕ) (i at : ℕ) → List Name
names_from ns bytes i at = pieces (drop i ns) (drop at bytes)

-- they fill the bytes, and each is good by itself
pub record OwnNamesFrom (ns bytes : List ℕ) (i at : ℕ) : Type 0 where
  pub fits : at + sum (drop i ns) ≡ length bytes
  pub own : all own_name (names_from ns bytes i at) ≡ true

-- ---- a pass: a block of names from number `from` on was at hand, and number `next` is the first after it

-- where no name was equal to one at hand, those after the block decide
pub record BlockNew (ns bytes : List ℕ) (from base next place : ℕ) : Type 0 where
  pub after : OwnNamesFrom ns bytes next place
  pub ahead : from < length ns → from < next
  pub so : all_new [] (names_from ns bytes from base) ≡ all_new [] (names_from ns bytes next place)

abbrev pub Passed : (ns bytes : List ℕ) → (from base : ℕ) → Option (ℕ × ℕ) → Type 0
Passed ns bytes from base (Some after) = BlockNew ns bytes from base after.0 after.1
Passed ns bytes from base None = all_new [] (names_from ns bytes from base) ≡ false
