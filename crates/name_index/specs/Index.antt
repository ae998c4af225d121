-- Names at hand and their index. `bytes` is the slice that they stand in, and `base` the place that their places count from. A name's word is its place times 256,
-- and its length.
use Rattle.std.specs.Prelude.{ℕ, ◌+◌, ◌-◌, ◌*◌, ◌/◌, ◌%◌, ◌<◌, ◌≤◌, ◌≡◌, Bool, true, false, not, ◌&&◌, Option, Some, None, length, get_or, take, drop}
use mathlib.Core.List.{List, [], ◌∷◌, ◌++◌, foldl, map}
use Rattle.format.specs.Bytes.{amongst}
use Rattle.format.specs.Mesh.{Name}

-- ---- the hash: any function of the bytes would do

abbrev pub spread : ℕ → ℕ
spread p = (p / 4294967296 + p % 4294967296) % 4294967296

unfoldable pub mixed : (multiplier h b : ℕ) → ℕ
mixed multiplier h b = spread ((h + b) % 4294967296 * multiplier)

abbrev pub first_multiplier : ℕ
first_multiplier = 2654435761

abbrev pub hash_of : (multiplier : ℕ) → List ℕ → ℕ
hash_of multiplier bytes = foldl (mixed multiplier) 0 bytes

abbrev pub mixed_again : (h b : ℕ) → ℕ
mixed_again h b = mixed (first_multiplier + h % 16777216) h b

abbrev pub multiplier_of : List ℕ → ℕ
multiplier_of list = foldl mixed_again (hash_of first_multiplier list) list

unfoldable pub bucket_of : (multiplier : ℕ) → Name → ℕ
bucket_of multiplier n = hash_of multiplier n % 16384

-- ---- names

abbrev pub name_of : List ℕ → (base word : ℕ) → Name
name_of bytes base word = take (word % 256) (drop (base + word / 256) bytes)

abbrev pub names_of : List ℕ → (base : ℕ) → (words : List ℕ) → List Name
names_of bytes base words = map (name_of bytes base) words

abbrev pub Inside : List ℕ → (base word : ℕ) → Type 0
Inside bytes base word = base + word / 256 + word % 256 ≤ length bytes

pub record AllInside (bytes : List ℕ) (base : ℕ) (words : List ℕ) : Type 0 where
  pub each : (k : ℕ) → k < length words → Inside bytes base (get_or words k 0)

-- ---- the index

-- from number k on, the links come to the name j
pub data Reach (links : List ℕ) (j : ℕ) : ℕ → Type 0 where
  here : {k : ℕ} → k ≡ j + 1 → Reach links j k
  there : {k : ℕ} → 0 < k → Reach links j (get_or links (k - 1) 0) → Reach links j k

pub record Index (multiplier : ℕ) (bytes : List ℕ) (base : ℕ) (words heads links : List ℕ) : Type 0 where
  pub few : length words ≤ 8192
  pub rooms : (length heads ≡ 16384) × (length links ≡ 8192)
  pub inside : AllInside bytes base words
  pub down : (k : ℕ) → k < length words → get_or links k 0 ≤ k
  pub tops : (b : ℕ) → b < 16384 → get_or heads b 0 ≤ length words
  pub reached : (k : ℕ) → k < length words → Reach links k (get_or heads (bucket_of multiplier (name_of bytes base (get_or words k 0))) 0)

-- where the name x is among the words, or that none has it
abbrev pub Found : (x : Name) (bytes : List ℕ) (base : ℕ) (words : List ℕ) → Option ℕ → Type 0
Found x bytes base words (Some k) = (k < length words) × (name_of bytes base (get_or words k 0) ≡ x)
Found x bytes base words None = amongst x (names_of bytes base words) ≡ false

-- ---- names that are all different

-- a name is none of some others
abbrev pub new_to : List Name → Name → Bool
new_to others n = not (amongst n others)

-- each name is new to those before it
unfoldable pub all_new : (earlier : List Name) → List Name → Bool
all_new earlier [] = true
all_new earlier (n ∷ ns) = new_to earlier n && all_new (earlier ++ (n ∷ [])) ns

-- none of some names is amongst those after it
pub data Different : List Name → Type 0 where
  no_name : Different []
  and_name : {n : Name} {ns : List Name} → amongst n ns ≡ false → Different ns → Different (n ∷ ns)
