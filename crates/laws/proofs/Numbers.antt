-- A number and its bytes: each is made of the other, digit by digit from the low end.
use Prim.Native.Nat.{ℕ, zero, suc, ◌+◌, ◌*◌, ◌/◌, ◌%◌, ◌^◌, ◌<◌}
use mathlib.Core.Path.{◌≡◌, refl, ◌∙◌}
use mathlib.Core.List.{List, [], ◌∷◌, ◌++◌, foldl-append, append_assoc, append-nil}
use mathlib.Core.Bool.{true}
use native.Mathlib.Omega.{arith}
use lib.ListN.{length, length-append}
use borrow.Author.Tests.{ltb-true}
use Rattle.format.specs.Bytes.{byte, number, all}
use Rattle.format.specs.Canonical.{bytes}
use Rattle.format.proofs.Facts.{all_first, all_rest}

-- one more byte at the low end
number_snoc : (w : List ℕ) (b : ℕ) → number (w ++ b ∷ []) ≡ number w * 256 + b
unfolding number
number_snoc w b = foldl-append (λ n b. n * 256 + b) 0 w (b ∷ [])

pub number_bytes : (k n : ℕ) → n < 256 ^ k → number (bytes k n) ≡ n
unfolding number bytes
number_bytes zero n small = omega arith
number_bytes (suc k) n small = number_snoc (bytes k (n / 256)) (n % 256) ∙ omega (arith, number_bytes k (n / 256) (omega arith))

-- what some bytes are a number of, and how large it is
pub record Digits (w : List ℕ) : Type 0 where
  pub is : bytes (length w) (number w) ≡ w
  pub small : number w < 256 ^ length w

digits_snoc : (w : List ℕ) (b : ℕ) → b < 256 → Digits w → Digits (w ++ b ∷ [])
unfolding bytes
digits_snoc w b b< d =
    let more : length (w ++ b ∷ []) ≡ suc (length w) = length-append w (b ∷ []) ∙ omega arith in
    let high : (number w * 256 + b) / 256 ≡ number w = omega arith in
    let low : (number w * 256 + b) % 256 ≡ b = omega arith in
    record { is = rw (number_snoc w b, more, high, low, d.is); small = rw (number_snoc w b, more) (omega (arith, d.small)) }

digits_on : (w v : List ℕ) → Digits w → all byte v ≡ true → Digits (w ++ v)
digits_on w [] d ok = rw (append-nil w) d
digits_on w (b ∷ v) d ok =
    rw (← append_assoc w (b ∷ []) v) (digits_on (w ++ b ∷ []) v (digits_snoc w b (ltb-true b 256 (all_first byte b v ok)) d) (all_rest byte b v ok))

pub digits : (w : List ℕ) → all byte w ≡ true → Digits w
unfolding bytes number
digits w ok = digits_on [] w (record { is = refl; small = omega arith }) ok
