-- What was judged fine is read again in the second pass, and is not refused.
use mathlib.Core.Bool.{Bool}
use mathlib.Core.List.{List}
use Prim.Native.Nat.{ℕ}
use lib.ListN.{drop}
use Rattle.format.specs.declared.Fault.{Fault}
use Rattle.format.specs.Items.{fault, Reader, ◌or◌unless◌}
use Rattle.format.specs.Promises.{Says, Succeeds}
use Rattle.format.proofs.ReaderSteps.{stopped}
use Rattle.format.proofs.Inversion.{sound_then, sound_not}

pub never : {A B : Type 0} {r : Reader A} {h : A → B} {s : List ℕ} {at : ℕ} {why : Fault} {p : ℕ} → Succeeds (r at (drop at s)) → Says r h s at (fault why p)
    → ⊥
never w v = sound_not w (stopped v)

pub sound_item : {A : Type 0} (r : Reader A) (why : Fault) (ok : A → Bool) (at : ℕ) (t : List ℕ) → Succeeds ((r or why unless ok) at t) → Succeeds (r at t)
unfolding ◌or◌unless◌
sound_item r why ok at t w = (sound_then (r at t) _ w).0
