-- A loop that asks whether all elements of a list pass a test: those that are left decide.
use mathlib.Core.Path.{◌≡◌, refl, sym, ◌∙◌}
use mathlib.Core.List.{List, [], ◌∷◌}
use mathlib.Core.Bool.{Bool, true, false, ◌&&◌, and_assoc, and-true}
use Rattle.format.specs.Bytes.{all}

pub record AllPass {A : Type 0} (p : A → Bool) (xs rest : List A) : Type 0 where
  pub so : all p xs ≡ all p rest

pub begin : {A : Type 0} {p : A → Bool} {xs : List A} → AllPass p xs xs
begin = record { so = refl }

module _ {A : Type 0} {p : A → Bool} {xs rest : List A} (w : AllPass p xs rest) where
  pub end : rest ≡ [] → true ≡ all p xs
  unfolding all
  end none = sym (rw none at w.so)

  module _ {x : A} {more : List A} (next : rest ≡ x ∷ more) where
    pub turn : p x ≡ true → AllPass p xs more
    unfolding all
    turn pass = record { so = rw (next, pass) at w.so }

    pub fails : p x ≡ false → false ≡ all p xs
    unfolding all
    fails fail = sym (rw (next, fail) at w.so)

-- ---- a loop without an exit, which joins the tests that it has made

pub record AllSoFar {A : Type 0} (p : A → Bool) (xs rest : List A) (passed : Bool) : Type 0 where
  pub so : all p xs ≡ (passed && all p rest)

pub so_far_begin : {A : Type 0} {p : A → Bool} {xs : List A} → AllSoFar p xs xs true
so_far_begin = record { so = refl }

module _ {A : Type 0} {p : A → Bool} {xs rest : List A} {passed : Bool} (w : AllSoFar p xs rest passed) where
  pub so_far_turn : {x : A} {more : List A} → rest ≡ x ∷ more → AllSoFar p xs more (passed && p x)
  unfolding all
  so_far_turn {x} {more} next = record { so = rw next at w.so ∙ sym (and_assoc passed (p x) (all p more)) }

  pub so_far_end : rest ≡ [] → passed ≡ all p xs
  unfolding all
  so_far_end none = sym (rw none at w.so ∙ and-true passed)

-- ---- a test of the code that answers a test of the rules

pub passed : {b x : Bool} → b ≡ x → b ≡ true → x ≡ true
passed is test = sym is ∙ test

pub failed : {b x : Bool} → b ≡ x → b ≡ false → x ≡ false
failed is test = sym is ∙ test
