-- An index in code, and what its methods say of it.
use Rattle.std.specs.Prelude.{ℕ, ◌+◌, ◌-◌, ◌*◌, ◌<◌, ◌≤◌, ◌≡◌, List, [], ◌∷◌, ◌++◌, length, get_or, set, take, drop}
use Rattle.format.specs.Limits.{name_limit}
use Rattle.format.specs.Mesh.{Name}
use Rattle.name_index.specs.declared.NameIndex.{NameIndex}
use Rattle.name_index.specs.Index.{bucket_of, names_of, Index}

-- the words of its names, and the names
abbrev pub words_in : NameIndex → List ℕ
words_in x = take x.count x.places

abbrev pub names_in : NameIndex → List Name
names_in x = names_of x.bytes.now x.base (words_in x)

pub record IsIndex (x : NameIndex) : Type 0 where
  pub few : x.count ≤ 8192
  pub room : length x.places ≡ 8192
  pub index : Index x.multiplier x.bytes.now x.base (words_in x) x.heads x.links

pub record IsEmptyIndex (bytes : List ℕ) (base multiplier : ℕ) (x : NameIndex) : Type 0 where
  pub index : IsIndex x
  pub over : (x.bytes.now ≡ bytes) × (x.base ≡ base) × (x.multiplier ≡ multiplier)
  pub none : x.count ≡ 0

-- there is room for one name more, of n bytes at a place
pub record RoomForName (x : NameIndex) (at n : ℕ) : Type 0 where
  pub free : x.count < 8192
  pub inside : at + n ≤ length x.bytes.now
  pub near : (x.base ≤ at) × (at < x.base + 16777216)
  pub short : n ≤ name_limit

-- ---- one name more

-- the name of n bytes at a place
abbrev pub name_there : NameIndex → (at n : ℕ) → Name
name_there x at n = take n (drop at x.bytes.now)

-- its word is the next one, and it is the head of its bucket, linked with the head before it
abbrev pub with_word : NameIndex → (word : ℕ) → Name → NameIndex
with_word x word name =
    let b = bucket_of x.multiplier name in
    record {
      bytes = x.bytes;
      base = x.base;
      multiplier = x.multiplier;
      count = x.count + 1;
      places = set x.places x.count word;
      heads = set x.heads b (x.count + 1);
      links = set x.links x.count (get_or x.heads b 0);
    }

abbrev pub with_name : NameIndex → (at n : ℕ) → NameIndex
with_name x at n = with_word x ((at - x.base) * 256 + n) (name_there x at n)

-- what this is for an index
pub record WithName (before : NameIndex) (name : Name) (after : NameIndex) : Type 0 where
  pub index : IsIndex after
  pub over : (after.bytes.now ≡ before.bytes.now) × (after.base ≡ before.base) × (after.multiplier ≡ before.multiplier)
  pub more : after.count ≡ before.count + 1
  pub names : names_in after ≡ names_in before ++ (name ∷ [])
