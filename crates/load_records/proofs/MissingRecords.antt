-- The records of names with no SURF are alike, so that one more is put after those that are there.
use mathlib.Core.Path.{◌≡◌, refl, ap}
use mathlib.Core.List.{List, ◌++◌, map}
use Prim.Native.Nat.{ℕ, zero, suc, ◌+◌, ◌*◌, ◌≤◌, ◌<◌}
use native.Mathlib.Omega.{arith}
use native.Mathlib.Numerals.{add-one}
use lib.ListN.{length, replicate}
use Rattle.format.specs.Bytes.{joined}
use Rattle.format.specs.Mesh.{surface_words, missing, record_size}
use Rattle.format.specs.Promises.{Put}
use Rattle.format.proofs.Puts.{put_none, put_append}
use Rattle.load_records.specs.declared.record.Record.{Record}
use Rattle.load_records.specs.Promises.{surface_of, MissingIs}

-- the words of n such records
abbrev pub missing_words : ℕ → List ℕ
missing_words n = joined (map surface_words (replicate n missing))

size : (n : ℕ) → length (missing_words n) ≡ n * record_size
unfolding joined
size zero = refl
size (suc n) = omega (arith, size n)

one_more : (n : ℕ) → missing_words n ++ surface_words missing ≡ missing_words (suc n)
unfolding joined
one_more zero = refl
one_more (suc n) = ap (λ l. surface_words missing ++ l) (one_more n)

-- the first i records are put
pub missing_begin : (table : List ℕ) → Put table 0 (missing_words 0) table
unfolding joined
missing_begin table = put_none table 0

module _ {n i : ℕ} {table₀ table : List ℕ} (room : n * record_size ≤ length table₀) (some : i < n) (put : Put table₀ 0 (missing_words i) table) where
  pub missing_turn : {r : Record} {table' : List ℕ} → MissingIs r → Put table (i * record_size) (surface_words (surface_of r)) table'
      → Put table₀ 0 (missing_words (i + 1)) table'
  missing_turn {r} {table'} is p =
      let done = missing_words i in
      let long : 0 + length done ≡ i * record_size = omega (arith, size i) in
      let one : Put table (0 + length done) (surface_words missing) table' = rw long (rw (ap surface_words is.is) at p) in
      rw (add-one i, ← one_more i) (put_append put one (omega (arith, long, room)))
