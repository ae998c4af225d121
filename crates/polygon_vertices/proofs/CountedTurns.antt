-- A loop that reads entries a number of times, counts its turns from 0 up, and keeps how many there were.
use mathlib.Core.Path.{◌≡◌}
use mathlib.Core.List.{List}
use Prim.Native.Nat.{ℕ, ◌+◌, ◌-◌, ◌*◌, ◌≤◌, ◌<◌}
use native.Mathlib.Omega.{arith}
use native.Mathlib.Nat.{add-mul, one-mul}
use lib.ListN.{length, drop}
use Rattle.format.specs.declared.Fault.{Fault}
use Rattle.format.specs.Items.{fault, Reader, times}
use Rattle.format.specs.Promises.{keep, got, each, Says, Keeps}
use Rattle.format.proofs.Entries.{TimesLoop, times_turn, times_stop, times_end}

-- from the place `from` on, i entries of the n of r are read, each of k bytes at least, up to the place `at`
pub record Turns {A : Type 0} (k : ℕ) (r : Reader A) (n : ℕ) (s : List ℕ) (from at i : ℕ) : Type 0 where
  pub few : i ≤ n
  pub far : from + i * k ≤ at
  pub timing : TimesLoop (keep length (times n r from (drop from s))) r s at (n - i) (λ xs. i + length xs)

module _ {A : Type 0} {k : ℕ} {r : Reader A} {n : ℕ} {s : List ℕ} {from at i : ℕ} (w : Turns k r n s from at i) where
  pub ended : n ≤ i → Keeps (times n r) length (each k) s from (got s n at)
  ended h =
      let f = w.few in
      let all : i ≡ n = omega arith in
      let is : i + 0 ≡ n = omega arith in
      record { says = record { is = rw is at (times_end w.timing (omega arith)) }; moves = rw all at w.far }

  module _ {C : Type 0} {h : A → C} (some : i < n) where
    pub turned : {y : C} {next : ℕ} → Says r h s at (got s y next) → at + k ≤ next → Turns k r n s from next (i + 1)
    turned says on =
        let one : n - (i + 1) ≡ n - i - 1 = omega arith in
        record {
          few = omega arith;
          far = rw (add-mul i 1 k, one-mul k) (omega (arith, w.far));
          timing = rw one (times_turn w.timing (omega arith) says (λ x xs e. omega arith));
        }

    pub halted : {why : Fault} {p : ℕ} → Says r h s at (fault why p) → Keeps (times n r) length (each k) s from (fault why p)
    halted says = record { says = record { is = times_stop w.timing (omega arith) says }; moves = tt }
