-- Names that the lengths cut from the bytes, and that are at hand.
use Rattle.std.specs.Prelude.{ℕ, ◌≤◌, ◌≡◌, true, List, leb, length}
use Rattle.format.specs.Bytes.{all, sum}
use Rattle.format.specs.Limits.{name_limit}
use Rattle.format.specs.Written.{pieces}
use Rattle.name_index.specs.declared.NameIndex.{NameIndex}
use Rattle.name_index.specs.NameIndex.{IsIndex, names_in}

-- there is room for all of them, and none is too long
pub record ShortNames (lengths bytes : List ℕ) : Type 0 where
  pub few : length lengths ≤ 8192
  pub short : all (λ n. leb n name_limit) lengths ≡ true
  pub inside : sum lengths ≤ length bytes

pub record AllHeld (multiplier : ℕ) (lengths bytes : List ℕ) (x : NameIndex) : Type 0 where
  pub index : IsIndex x
  pub over : (x.bytes.now ≡ bytes) × (x.base ≡ 0) × (x.multiplier ≡ multiplier)
  pub count : x.count ≡ length lengths
  pub are : names_in x ≡ pieces lengths bytes
