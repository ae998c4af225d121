-- The hash of some bytes, as the hash so far and the bytes that are left.
use Prim.Native.Nat.{ℕ, ◌+◌, ◌*◌, ◌^◌, ◌<◌, ◌≤◌}
use mathlib.Core.Path.{◌≡◌, sym}
use mathlib.Core.List.{List, foldl}
use native.Mathlib.Nat.{le_of_lt, lt_of_le_of_lt, mul-le-mul_left, mul-lt-mul_of_pos_right}
use native.Mathlib.Omega.{arith}
use lib.ListN.{length, get_or, drop}
use Rattle.format.specs.Mesh.{Name}
use Rattle.format.proofs.Indexed.{at_index, past_end}
use Rattle.name_index.specs.Index.{bucket_of}

pub product_fits : {a b : ℕ} → a < 2 ^ 32 → b < 2 ^ 32 → a * b < 2 ^ 64
product_fits {a} {b} la lb =
    let pos : 0 < 2 ^ 32 = omega arith in
    omega (arith, lt_of_le_of_lt (mul-le-mul_left a (le_of_lt lb)) (mul-lt-mul_of_pos_right la pos))

-- whatever is done with each byte
module _ (step : ℕ → ℕ → ℕ) (bytes : List ℕ) (h i : ℕ) where
  pub one_byte_more : i < length bytes → foldl step (step h (get_or bytes i 0)) (drop (i + 1) bytes) ≡ foldl step h (drop i bytes)
  one_byte_more l = sym (rw (at_index bytes i l))

  pub no_byte_left : {r : ℕ} → length bytes ≤ i → foldl step h (drop i bytes) ≡ r → h ≡ r
  no_byte_left l e = rw (past_end bytes i l) at e

pub bucket_less : (multiplier : ℕ) (name : Name) → bucket_of multiplier name < 16384
unfolding bucket_of
bucket_less multiplier name = omega arith
