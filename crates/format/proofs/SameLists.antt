-- Two lists are the same, and a list is all of a kind, where its elements are, one by one.
use Prim.Native.Nat.{ℕ}
use Rattle.std.specs.Prelude.{nat_eq}
use Rattle.std.specs.List.{list_all}
use mathlib.Core.Path.{◌≡◌, refl, sym, ap, ◌∙◌}
use mathlib.Core.List.{List, [], ◌∷◌}
use mathlib.Core.Bool.{Bool, true, false, false≢true, and-eq-true_iff}
use lib.Dec.{eqb}
use lib.Pointwise.{pointwise}
use borrow.Author.Tests.{eqb-true, eq-eqb}
use Rattle.format.specs.Bytes.{same, all}

pub same_eq : (xs ys : List ℕ) → same xs ys ≡ true → xs ≡ ys
unfolding same
same_eq [] [] e = refl
same_eq [] (y ∷ ys) e = absurd (false≢true e)
same_eq (x ∷ xs) [] e = absurd (false≢true e)
same_eq (x ∷ xs) (y ∷ ys) e = let both = (and-eq-true_iff (eqb x y) (same xs ys)).0 e in rw (eqb-true x y both.0, same_eq xs ys both.1)

pub same_refl : (xs : List ℕ) → same xs xs ≡ true
unfolding same
same_refl [] = refl
same_refl (x ∷ xs) = rw (eq-eqb x x refl) (same_refl xs)

pub not_same : {xs ys : List ℕ} → same xs ys ≡ false → ys ≡ xs → ⊥
not_same {xs} {ys} f e = false≢true (sym f ∙ ap (same xs) e ∙ same_refl xs)

-- the library's comparison of lists of numbers is the specification's
pub pointwise_same : (xs ys : List ℕ) → pointwise nat_eq xs ys ≡ same xs ys
unfolding same
pointwise_same [] [] = refl
pointwise_same [] (y ∷ ys) = refl
pointwise_same (x ∷ xs) [] = refl
pointwise_same (x ∷ xs) (y ∷ ys) = rw (pointwise_same xs ys) refl

-- the library's test of a whole list is the specification's
pub all_same : {A : Type 0} (p q : A → Bool) → ((a : A) → p a ≡ q a) → (xs : List A) → list_all p xs ≡ all q xs
unfolding all
all_same p q e [] = refl
all_same p q e (x ∷ xs) = rw (e x, all_same p q e xs) refl
