-- What the answers on points and on names say, in the specification's words. `s` is the lent slice, and `at` the place that was read at.
use Rattle.std.specs.Prelude.{ℕ, ◌+◌, ◌<◌, ◌≤◌, ◌≡◌, Bool, List, [], ◌∷◌, map, length, take, drop, Result, Ok, Err}
use Rattle.format.specs.Bytes.{sum, amongst}
use Rattle.format.specs.Items.{Verdict, fine, fault, Got, string}
use Rattle.format.specs.Mesh.{Name}
use Rattle.format.specs.Bodies.{Part, new_name}
use Rattle.format.specs.Rules.{points_of, names_of}
use Rattle.format.specs.Promises.{got, itself, Says}
use Rattle.wire.specs.declared.Refusal.{Refusal}
use Rattle.validate_lists.specs.declared.names.NameSizes.{NameSizes}

-- ---- points

abbrev pub point_count : Part → ℕ
point_count part = length (points_of part)

-- nothing is kept of what is fine up to a place, or the first fault
abbrev pub fine_to : List ℕ → ℕ → Result (Unit {0}) Refusal → Verdict (Got (Unit {0}))
fine_to s next (Ok u) = got s u next
fine_to s next (Err f) = fault f.why f.at

-- ---- names

-- how many, and how many bytes they have
abbrev pub name_sizes : Part → ℕ × ℕ
name_sizes part = (length (names_of part), sum (map length (names_of part)))

abbrev pub names_as : Result NameSizes Refusal → Verdict (ℕ × ℕ)
names_as (Ok z) = fine (z.count, z.bytes)
names_as (Err f) = fault f.why f.at

-- the names that stand from one place to another
pub data Chain (s : List ℕ) (to : ℕ) : ℕ → List Name → Type 0 where
  done : Chain s to to []
  link : {at next : ℕ} {n : Name} {ns : List Name} → at < next → Says string itself s at (got s n next) → Chain s to next ns → Chain s to at (n ∷ ns)

-- the strings of a body from its first byte up to a place, and n bytes at that place
pub record NameAt (s : List ℕ) (at n : ℕ) : Type 0 where
  pub earlier : List Name
  pub chain : Chain s at 8 earlier
  pub there : at + n ≤ length s

-- whether the name of n bytes at a place is amongst the names before it
pub record Amongst (s : List ℕ) (at n : ℕ) (r : Bool) : Type 0 where
  pub is : (ns : List Name) → Chain s at 8 ns → r ≡ amongst (take n (drop at s)) ns

-- whether it is a name that may stand after them
pub record NewName (s : List ℕ) (at n : ℕ) (r : Bool) : Type 0 where
  pub is : (ns : List Name) → Chain s at 8 ns → r ≡ new_name ns (take n (drop at s))
