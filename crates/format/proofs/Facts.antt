-- Facts about tests and about joined lists.
use Prim.Native.Nat.{ℕ, zero, suc, ◌+◌, ◌*◌, ◌/◌, ◌%◌, ◌^◌, ◌≤◌, ◌<◌}
use mathlib.Core.Path.{◌≡◌, refl, sym, ap, ◌∙◌}
use mathlib.Core.List.{List, [], ◌∷◌, ◌++◌, map, map-append}
use mathlib.Core.Bool.{Bool, true, false, not, ◌&&◌, and-false, false≢true, and-eq-true_iff}
use mathlib.Core.Logic.{◌≢◌}
use native.Mathlib.Omega.{arith}
use lib.Dec.{leb, ltb, eqb}
use lib.ListN.{length, take, drop, get_or, length-append, take-append-drop}
use borrow.Author.Tests.{leb-true, ltb-true, lt-ltb, eqb-false, not-true}
use Rattle.format.specs.Bytes.{byte, between, finite, every, all, sum, joined}
use Rattle.format.proofs.Puts.{joined_append}

-- two tests that pass
pub both : {a b : Bool} → a ≡ true → b ≡ true → a && b ≡ true
both p q = rw (p, q)

-- from two constructors that are told to be equal, `cc` proves this equation, and anything follows from it
pub impossible : {P : Type 0} → ◌≡◌ {A = ℕ} 0 1 → P
impossible e = absurd (omega arith)

-- ---- tests that all pass

-- where all of some tests pass, the i-th does
pub every_at : (bs : List Bool) (i : ℕ) → every bs ≡ true → get_or bs i true ≡ true
unfolding every
every_at [] i e = refl
every_at (true ∷ bs) zero e = refl
every_at (true ∷ bs) (suc i) e = every_at bs i e
every_at (false ∷ bs) i e = absurd (false≢true e)

all_every : {A : Type 0} (p : A → Bool) (xs : List A) → all p xs ≡ every (map p xs)
unfolding all every
all_every p [] = refl
all_every p (x ∷ xs) = rw (all_every p xs)

-- where all elements pass a test, the i-th does
pub all_at : {A : Type 0} (p : A → Bool) (xs : List A) (i : ℕ) → all p xs ≡ true → get_or (map p xs) i true ≡ true
all_at p xs i e = every_at (map p xs) i (rw (all_every p xs) at e)

-- two pairs of tests, paired the other way
pub in_pairs : (a b c d : Bool) → ((a && b) && (c && d)) ≡ ((a && c) && (b && d))
in_pairs true true c d = refl
in_pairs true false c d = sym (and-false c)
in_pairs false b c d = refl

pub all_first : {A : Type 0} (p : A → Bool) (x : A) (xs : List A) → all p (x ∷ xs) ≡ true → p x ≡ true
all_first p x xs e = all_at p (x ∷ xs) 0 e

pub all_rest : {A : Type 0} (p : A → Bool) (x : A) (xs : List A) → all p (x ∷ xs) ≡ true → all p xs ≡ true
unfolding all
all_rest p x xs e = ((and-eq-true_iff (p x) (all p xs)).0 e).1

pub all_and : {A : Type 0} (p q : A → Bool) (xs : List A) → all p xs ≡ true → all q xs ≡ true → all (λ x. p x && q x) xs ≡ true
unfolding all
all_and p q [] e₁ e₂ = refl
all_and p q (x ∷ xs) e₁ e₂ = rw (all_first p x xs e₁, all_first q x xs e₂) (all_and p q xs (all_rest p x xs e₁) (all_rest q x xs e₂))

-- of what is made of each element
pub all_map : {A C : Type 0} (p : C → Bool) (f : A → C) (xs : List A) → all (λ x. p (f x)) xs ≡ true → all p (map f xs) ≡ true
unfolding all
all_map p f [] e = refl
all_map p f (x ∷ xs) e = both (all_first (λ x. p (f x)) x xs e) (all_map p f xs (all_rest (λ x. p (f x)) x xs e))

pub all_append : {A : Type 0} (p : A → Bool) (xs ys : List A) → all p (xs ++ ys) ≡ true → (all p xs ≡ true) × (all p ys ≡ true)
unfolding all
all_append p [] ys e = (refl, e)
all_append p (x ∷ xs) ys e = let later = all_append p xs ys (all_rest p x (xs ++ ys) e) in (rw (all_first p x (xs ++ ys) e) later.0, later.1)

pub all_append_true : {A : Type 0} (p : A → Bool) (xs ys : List A) → all p xs ≡ true → all p ys ≡ true → all p (xs ++ ys) ≡ true
unfolding all
all_append_true p [] ys e₁ e₂ = e₂
all_append_true p (x ∷ xs) ys e₁ e₂ = rw (all_first p x xs e₁) (all_append_true p xs ys (all_rest p x xs e₁) e₂)

pub all_drop : {A : Type 0} (p : A → Bool) (xs : List A) (i : ℕ) → all p xs ≡ true → all p (drop i xs) ≡ true
all_drop p xs i e = (all_append p (take i xs) (drop i xs) (rw take-append-drop e)).1

-- where all elements pass a test, the n from the i-th on do
pub all_part : {A : Type 0} (p : A → Bool) (xs : List A) (i n : ℕ) → all p xs ≡ true → all p (take n (drop i xs)) ≡ true
all_part p xs i n e = (all_append p (take n (drop i xs)) (drop n (drop i xs)) (rw take-append-drop (all_drop p xs i e))).0

-- a list of numbers below 256 is bytes
pub all_bytes : (s : List ℕ) → ((i : ℕ) → get_or s i 0 < 256) → all byte s ≡ true
unfolding all
all_bytes [] few = refl
all_bytes (b ∷ s) few = rw (lt-ltb b 256 (few 0)) (all_bytes s (λ i. few (suc i)))

pub between_true : (least most n : ℕ) → between least most n ≡ true → (least ≤ n) × (n ≤ most)
between_true least most n e = let both = (and-eq-true_iff (leb least n) (leb n most)).0 e in (leb-true least n both.0, leb-true n most both.1)

-- ---- floats

-- a finite f32 has 32 bits, and its exponent is not all ones
pub finite_bits : (bits : ℕ) → finite bits ≡ true → (bits < 2 ^ 32) × (bits / 2 ^ 23 % 256 ≢ 255)
unfolding finite
finite_bits bits e =
    let both = (and-eq-true_iff (ltb bits (2 ^ 32)) (not (eqb (bits / 2 ^ 23 % 256) 255))).0 e in
    (ltb-true bits (2 ^ 32) both.0, eqb-false _ _ (not-true _ both.1))

-- ---- sums

pub sum_append : (xs ys : List ℕ) → sum (xs ++ ys) ≡ sum xs + sum ys
unfolding sum
sum_append [] ys = omega arith
sum_append (x ∷ xs) ys = omega (arith, sum_append xs ys)

pub sum_map_append : {A : Type 0} (f : A → ℕ) (xs ys : List A) → sum (map f (xs ++ ys)) ≡ sum (map f xs) + sum (map f ys)
sum_map_append f xs ys = ap sum (map-append f xs ys) ∙ sum_append (map f xs) (map f ys)

-- ---- joined lists

pub length_each : {A : Type 0} (n : ℕ) (f : A → List ℕ) → ((x : A) → length (f x) ≡ n) → (xs : List A) → length (joined (map f xs)) ≡ length xs * n
unfolding joined
length_each n f long [] = omega arith
length_each n f long (x ∷ xs) = length-append (f x) (joined (map f xs)) ∙ omega (arith, long x, length_each n f long xs)

-- joined lists are as long as they are together
pub length_joined : {A : Type 0} (xss : List (List A)) → sum (map length xss) ≡ length (joined xss)
unfolding joined sum
length_joined [] = refl
length_joined (xs ∷ xss) = omega (arith, length-append xs (joined xss), length_joined xss)

-- so are lists that are made one by one
pub length_joined_map : {A B : Type 0} (f : A → List B) (xs : List A) → sum (map (λ x. length (f x)) xs) ≡ length (joined (map f xs))
unfolding joined sum
length_joined_map f [] = refl
length_joined_map f (x ∷ xs) = omega (arith, length-append (f x) (joined (map f xs)), length_joined_map f xs)

pub joined_joined : {A B : Type 0} (f : A → List (List B)) (xs : List A) → joined (map (λ x. joined (f x)) xs) ≡ joined (joined (map f xs))
unfolding joined
joined_joined f [] = refl
joined_joined f (x ∷ xs) = ap (λ l. joined (f x) ++ l) (joined_joined f xs) ∙ sym (joined_append (f x) (joined (map f xs)))

pub map_joined : {A B C : Type 0} (g : B → C) (f : A → List B) (xs : List A) → joined (map (λ x. map g (f x)) xs) ≡ map g (joined (map f xs))
unfolding joined
map_joined g f [] = refl
map_joined g f (x ∷ xs) = ap (λ l. map g (f x) ++ l) (map_joined g f xs) ∙ sym (map-append g (f x) (joined (map f xs)))
