-- Bytes that differ in their length, or at one place, are not the same.
use Prim.Native.Nat.{ℕ}
use mathlib.Core.Path.{◌≡◌, refl, ap}
use mathlib.Core.List.{List}
use mathlib.Core.Bool.{Bool, true, false}
use lib.ListN.{length, get_or}
use Rattle.format.specs.Bytes.{same}
use Rattle.format.proofs.SameLists.{same_eq}

is_false : (b : Bool) → (b ≡ true → ⊥) → false ≡ b
is_false true h = absurd (h refl)
is_false false h = refl

pub different : (xs ys : List ℕ) → (length xs ≡ length ys → ⊥) → false ≡ same xs ys
different xs ys h = is_false (same xs ys) (λ e. h (ap length (same_eq xs ys e)))

pub differ_at : (xs ys : List ℕ) (i : ℕ) → (get_or xs i 0 ≡ get_or ys i 0 → ⊥) → false ≡ same xs ys
differ_at xs ys i h = is_false (same xs ys) (λ e. h (ap (λ zs. get_or zs i 0) (same_eq xs ys e)))
