-- A surface number is its absolute value and its sign, and whatever judges it stops where it, or the vertices before it, stop.
use mathlib.Core.Path.{◌≡◌, sym, ap, ◌∙◌}
use mathlib.Core.Bool.{Bool, not, ◌&&◌}
use mathlib.Core.List.{List}
use Prim.Native.Nat.{ℕ}
use lib.IntN.{ℤ}
use lib.ListN.{drop}
use Rattle.format.specs.declared.Fault.{Fault}
use Rattle.format.specs.Bytes.{between, negative}
use Rattle.format.specs.Items.{Verdict, fine, fault, Got, ◌and_then◌, Reader, ◌>>=◌, i2}
use Rattle.format.specs.Bodies.{in_name_list, lwob_vertices}
use Rattle.format.specs.Promises.{nothing, Says}
use Rattle.format.proofs.ReaderSteps.{stopped}
use Rattle.wire.specs.declared.cursor.SignedSurface.{SignedSurface}
use Rattle.wire.specs.Promises.{signed_surface_of}

-- ---- a surface number

module _ {x : SignedSurface} (z : ℤ) (e : signed_surface_of z ≡ x) {b : Bool} where
  pub has_sign : x.negative ≡ b → negative z ≡ b
  has_sign h = ap (λ y. y.negative) e ∙ h

  pub not_sign : x.negative ≡ b → not (negative z) ≡ not b
  not_sign h = ap not (has_sign h)

  pub names_one : {r : Bool} (n : ℕ) → r ≡ between 1 n x.number → r ≡ b → in_name_list n z ≡ b
  names_one n is h = ap (λ y. between 1 n y.number) e ∙ sym is ∙ h

  -- the test of a patch's number
  pub plain_one : {r : Bool} (n : ℕ) → r ≡ between 1 n x.number → (not x.negative && r) ≡ b → (not (negative z) && in_name_list n z) ≡ b
  plain_one n is h = ap (λ y. not y.negative && between 1 n y.number) e ∙ ap (λ t. not x.negative && t) (sym is) ∙ h

-- ---- vertices and a surface number, of which one is at fault: so is whatever judges that number

pub lwob_entry_stops : {B C : Type 0} (point_count : ℕ) {h : B → C} {s : List ℕ} {at : ℕ} {why : Fault} {p : ℕ} (q : List ℕ → Reader B)
    → ((vs : List ℕ) (next : ℕ) (t : List ℕ) → i2 next t ≡ fault why p → q vs next t ≡ fault why p)
    → Says (lwob_vertices point_count >>= (λ vs. i2)) nothing s at (fault why p) → Says (lwob_vertices point_count >>= q) h s at (fault why p)
unfolding ◌>>=◌ ◌and_then◌
lwob_entry_stops point_count {h} {s} {at} {why} {p} q stops w = record { is = rw (by (lwob_vertices point_count at (drop at s)) (stopped w)) }
  where
    by : (v : Verdict (Got (List ℕ))) → (v and_then λ g. i2 g.next g.left) ≡ fault why p → (v and_then λ g. q g.value g.next g.left) ≡ fault why p
    by (fine g) e = stops g.value g.next g.left e
    by (fault w p) e = cc
