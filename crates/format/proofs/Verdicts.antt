-- Verdicts: what a verdict that is fine, or a fault, was made of.
use Rattle.std.specs.Prelude.{if◌then◌else◌}
use mathlib.Core.Path.{◌≡◌, refl}
use mathlib.Core.Bool.{Bool, true, false}
use Prim.Native.Nat.{ℕ}
use Rattle.format.specs.declared.Fault.{Fault}
use Rattle.format.specs.Items.{Verdict, fine, fault, ◌and_then◌}
use Rattle.format.proofs.Facts.{impossible}

pub same_fine : {A : Type 0} {a b : A} → fine a ≡ fine b → a ≡ b
same_fine e = cc

-- a step that was fine, and the steps after it
pub then_fine : {A B : Type 0} (v : Verdict A) (f : A → Verdict B) {x : B} → (v and_then f) ≡ fine x → (a : A) × (v ≡ fine a) × (f a ≡ fine x)
unfolding ◌and_then◌
then_fine (fine a) f e = (a, refl, e)
then_fine (fault why at) f e = impossible cc

-- a test without which there is a fault, and one with which there is
pub chosen : {A : Type 0} (b : Bool) (v : Verdict A) (why : Fault) (at : ℕ) {x : A} → (if b then v else fault why at) ≡ fine x → (b ≡ true) × (v ≡ fine x)
chosen true v why at e = (refl, e)
chosen false v why at e = impossible cc

pub passed : {A : Type 0} (b : Bool) (v : Verdict A) (why : Fault) (at : ℕ) {x : A} → (if b then fault why at else v) ≡ fine x → (b ≡ false) × (v ≡ fine x)
passed true v why at e = impossible cc
passed false v why at e = (refl, e)

-- ---- of which a part is kept

-- a verdict that is fine with a value, of which f is told
pub record FineWith {A B : Type 0} (v : Verdict A) (f : A → B) (y : B) : Type 0 where
  pub value : A
  pub is : v ≡ fine value
  pub shows : f value ≡ y

pub fine_with : {A B : Type 0} (v : Verdict A) (f : A → B) {y : B} → fine y ≡ (v and_then λ x. fine (f x)) → FineWith v f y
unfolding ◌and_then◌
fine_with (fine x) f e = record { value = x; is = refl; shows = cc }
fine_with (fault why p) f e = impossible cc

pub stopped : {A B : Type 0} (v : Verdict A) (f : A → B) {why : Fault} {at : ℕ} → fault why at ≡ (v and_then λ x. fine (f x)) → v ≡ fault why at
unfolding ◌and_then◌
stopped (fine x) f e = impossible cc
stopped (fault why p) f e = cc

pub then_same : {A B : Type 0} (v : Verdict A) (f g : A → B) → ((x : A) → f x ≡ g x) → (v and_then λ x. fine (f x)) ≡ (v and_then λ x. fine (g x))
unfolding ◌and_then◌
then_same (fine x) f g e = rw (e x)
then_same (fault why p) f g e = refl

pub then_then : {A B C : Type 0} (v : Verdict A) (f : A → B) (g : B → C)
    → ((v and_then λ x. fine (f x)) and_then λ y. fine (g y)) ≡ (v and_then λ x. fine (g (f x)))
unfolding ◌and_then◌
then_then (fine x) f g = refl
then_then (fault why p) f g = refl
