-- The digits that the library puts for a number are those that the program prints.
use Prim.Native.Nat.{ℕ, zero, suc, ◌+◌, ◌-◌, ◌/◌, ◌%◌, ◌^◌, ◌≤◌, ◌<◌}
use mathlib.Core.Path.{◌≡◌, ap}
use mathlib.Core.List.{List, [], ◌∷◌, ◌++◌}
use native.Mathlib.Nat.{pow-succ', pow-le-pow_right, lt_of_not-le}
use native.Mathlib.Omega.{arith}
use borrow.Author.Tests.{lt-ltb, le-ltb}
use Rattle.io.specs.Digits.{IsDigitCount, last_digits as lastDigits}
use Rattle.listing_text.specs.Text.{digits, decimal}

-- where k + 1 digits are the fewest that hold n
digits_are : (k most n : ℕ) → n < most → n < 10 ^ suc k → (1 < suc k → 10 ^ k ≤ n) → lastDigits 10 (suc k) n ≡ digits most n
unfolding digits
digits_are k zero n enough small large = absurd (omega arith)
digits_are zero (suc most) n enough small large =
    let below : n < 10 = omega arith in
    rw (lt-ltb n 10 below, lt-ltb (n % 10) 10 (omega arith))
digits_are (suc k) (suc most) n enough small large =
    let power = pow-succ' 10 k in
    let next_power = pow-succ' 10 (suc k) in
    let least : 10 ^ suc k ≤ n = large (omega arith) in
    let some : 0 < 10 ^ k = pow-le-pow_right {n = 10} (omega arith) {i = 0} {j = k} (omega arith) in
    rw (le-ltb n 10 (omega arith), lt-ltb (n % 10) 10 (omega arith))
    (ap (λ (l : List ℕ). l ++ ((48 + n % 10) ∷ [])) (digits_are k most (n / 10) (omega arith) (omega arith) (λ h. omega arith)))

pub decimal_is : (n k : ℕ) → IsDigitCount 10 1 n k → lastDigits 10 k n ≡ decimal n
unfolding decimal
decimal_is n zero f = absurd (omega (arith, f.0))
decimal_is n (suc k) f =
    let e : suc k - 1 ≡ k = omega arith in
    let large = rw e at f.2 in
    digits_are k (suc n) n (omega arith) f.1 large

-- a number of 64 bits
pub few_digits : (n k : ℕ) → n < 2 ^ 64 → IsDigitCount 10 1 n k → k ≤ 20
few_digits n k small f =
    let many : 21 ≤ k → ⊥ = λ h. omega (arith, f.2 (omega arith), pow-le-pow_right {n = 10} (omega arith) {i = 20} {j = k - 1} (omega arith)) in
    let below : k < 21 = lt_of_not-le many in
    omega arith
