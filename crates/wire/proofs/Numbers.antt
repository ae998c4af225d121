-- A number with one byte more is 256 times the number before it, and that byte.
use mathlib.Core.Path.{◌≡◌}
use mathlib.Core.List.{List, [], ◌∷◌, foldl-append}
use Prim.Native.Nat.{ℕ, zero, suc, ◌+◌, ◌*◌, ◌^◌, ◌≤◌, ◌<◌}
use native.Mathlib.Omega.{arith}
use native.Mathlib.Numerals.{add-one}
use lib.ListN.{length, get_or, take}
use Rattle.std.proofs.Math.Nat.{pow-suc}
use Rattle.std.proofs.lemmas.List.{take_more}
use Rattle.format.specs.Bytes.{number}

pub number_more : (xs : List ℕ) (i : ℕ) → i < length xs → number (take (i + 1) xs) ≡ number (take i xs) * 256 + get_or xs i 0
unfolding number
number_more xs i h = rw (take_more xs i 0 h) (foldl-append (λ n b. n * 256 + b) 0 (take i xs) (get_or xs i 0 ∷ []))

-- of fewer than four bytes there is room for one more in 32 bits
pub room_for_one : (i : ℕ) → i < 4 → 256 ^ i ≤ 16777216
room_for_one zero h = omega arith
room_for_one (suc zero) h = omega arith
room_for_one (suc (suc zero)) h = omega arith
room_for_one (suc (suc (suc zero))) h = omega arith
room_for_one (suc (suc (suc (suc i)))) h = absurd (omega arith)

pub below_more : (i n b : ℕ) → n < 256 ^ i → b < 256 → n * 256 + b < 256 ^ (i + 1)
below_more i n b h k = let e : 256 ^ (i + 1) ≡ 256 ^ i * 256 = rw add-one (pow-suc 256 i) in omega (arith, e)
