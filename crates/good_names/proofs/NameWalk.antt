-- The names, of which each is a slice of the joined bytes, judged each by itself.
use Prim.Native.Nat.{ℕ, ◌+◌, ◌-◌, ◌<◌, ◌≤◌}
use mathlib.Core.Path.{◌≡◌}
use mathlib.Core.List.{List, ◌∷◌}
use mathlib.Core.Bool.{Bool, true, false}
use native.Mathlib.Omega.{arith}
use lib.ListN.{length, get_or, take, drop}
use Rattle.format.specs.Bytes.{all, sum}
use Rattle.format.specs.Written.{pieces}
use Rattle.good_entries.specs.Entries.{own_name}
use Rattle.good_names.specs.Repeats.{names_from}
use Rattle.format.proofs.Indexed.{past_end, part, pieces_at, sum_index}
use Rattle.mesh.proofs.AllPass as all_pass
use Rattle.mesh.proofs.AllPass.{AllPass}

pub first_name : (ns bytes : List ℕ) (i at : ℕ) → i < length ns → {n : ℕ} → n ≡ get_or ns i 0
    → names_from ns bytes i at ≡ take n (drop at bytes) ∷ names_from ns bytes (i + 1) (at + n)
first_name ns bytes i at some long = rw long (pieces_at i at ns bytes some)

pub record OwnWalk (ns bytes : List ℕ) (i at : ℕ) : Type 0 where
  pub fits : at + sum (drop i ns) ≡ length bytes
  pub pass : AllPass own_name (pieces ns bytes) (names_from ns bytes i at)

pub own_begin : {ns bytes : List ℕ} → sum ns ≡ length bytes → OwnWalk ns bytes 0 0
own_begin agree = record { fits = omega arith; pass = all_pass.begin }

module _ {ns bytes : List ℕ} {i at : ℕ} (w : OwnWalk ns bytes i at) where
  pub own_end : length ns ≤ i → true ≡ all own_name (pieces ns bytes)
  unfolding pieces
  own_end l = all_pass.end w.pass (rw (past_end ns i l))

  module _ (some : i < length ns) {n : ℕ} (long : n ≡ get_or ns i 0) where
    pub own_room : at + n ≤ length bytes
    own_room = omega (arith, w.fits, sum_index i ns some)

    module _ {b : Bool} (is : b ≡ own_name (take (at + n - at) (drop at bytes))) where
      pub own_fails : b ≡ false → false ≡ all own_name (pieces ns bytes)
      own_fails t = all_pass.fails w.pass (first_name ns bytes i at some long) (all_pass.failed (rw part at is) t)

      pub own_turn : b ≡ true → OwnWalk ns bytes (i + 1) (at + n)
      own_turn t = record {
        fits = omega (arith, w.fits, sum_index i ns some);
        pass = all_pass.turn w.pass (first_name ns bytes i at some long) (all_pass.passed (rw part at is) t);
      }
