-- Parts put one after another: each is the first of those that are left, and there is room for all of them.
use Prim.Native.Nat.{ℕ, ◌+◌, ◌≤◌}
use mathlib.Core.Path.{◌≡◌, refl}
use mathlib.Core.List.{List, [], ◌∷◌, ◌++◌, append-nil}
use lib.ListN.{length}
use Rattle.format.specs.Bytes.{joined}
use Rattle.output.specs.Outputs.{Wrote}
use Rattle.output.proofs.PutSoFar as bytes_put
use Rattle.output.proofs.PutSoFar.{wrote_none, PutSoFar, NextPart}

-- those in `left` are still to be put
pub record PartsLeft (goal : List ℕ) (left : List (List ℕ)) (t : List ℕ) (at : ℕ) (t' : List ℕ) (next : ℕ) : Type 0 where
  pub fills : PutSoFar goal (joined left) t at t' next

pub begin : {goal t : List ℕ} {parts : List (List ℕ)} {at : ℕ} → goal ≡ joined parts → at + length goal ≤ length t → PartsLeft goal parts t at t at
begin is fits = record { fills = record { fits = fits; so_far = []; wrote = wrote_none; so = is } }

pub in_two : (x y : List ℕ) → x ++ y ≡ joined (x ∷ y ∷ [])
unfolding joined
in_two x y = rw (append-nil y)

pub end : {goal t t' : List ℕ} {at next : ℕ} → PartsLeft goal [] t at t' next → Wrote t at goal t' next
unfolding joined
end w = bytes_put.end w.fills refl

module _ {goal x t t' : List ℕ} {xs : List (List ℕ)} {at next : ℕ} (w : PartsLeft goal (x ∷ xs) t at t' next) where
  one : NextPart (joined (x ∷ xs)) x (joined xs)
  unfolding joined
  one = record { is = refl }

  pub room : next + length x ≤ length t'
  room = bytes_put.room w.fills one

  pub turn : {t'' : List ℕ} {last : ℕ} → Wrote t' next x t'' last → PartsLeft goal xs t at t'' last
  turn v = record { fills = bytes_put.turn w.fills one v }
