-- The first zero byte gives the string's size, and its last byte tells whether its zeros are there.
use mathlib.Core.Path.{◌≡◌, refl}
use mathlib.Core.List.{List}
use Prim.Native.Nat.{ℕ, ◌-◌, ◌≤◌}
use native.Mathlib.Omega.{arith}
use lib.Dec.{eqb}
use lib.ListN.{length, take, drop, length-drop}
use lib.Seq.{take-length}
use Rattle.std.specs.Prelude.{Option, unwrap_or, position}
use Rattle.format.specs.Items.{to_zero}
use Rattle.format.proofs.Strings.{short, text, bad_text}
use Rattle.wire.proofs.FirstZero.{first_zero}
use Rattle.wire.proofs.cursor.Cursor.string.Goals as goal
use Rattle.wire.proofs.cursor.Cursor.string.Goals.{then-left-size-via-then-left-size, then-left-size-via-else-left-size+then-s-at-ne0}

-- what the library found in the rest of the slice
found : (s : List ℕ) (at : ℕ) {r : Option ℕ} → at ≤ length s → r ≡ position (λ b. eqb b 0) (take (length s - at) (drop at s))
    → unwrap_or r (length s - at) ≡ to_zero (drop at s)
found s at h is =
    let all : take (length s - at) (drop at s) ≡ drop at s = rw (← length-drop at s) (take-length (drop at s)) in
    rw (is, all, ← length-drop at s) (first_zero (drop at s))

pub returns-then-s-at : goal.returns-then-s-at
returns-then-s-at c = record { reads = short _ _ _ refl (omega arith); inside = tt }

pub returns-in_default : goal.returns-in_default
returns-in_default c =
    let a = c.args in
    record { reads = short _ _ _ (found a.s.now a.self.at c.if-s-at.false c.in_default.ensures) (omega arith); inside = tt }

pub returns-then-left-size : goal.returns-then-left-size
returns-then-left-size c =
    let a = c.args in
    let is = found a.s.now a.self.at c.if-s-at.false c.in-Some.ensures in
    elim c.then-left-size.branch [
      | then-left-size-via-then-left-size w ↦ record { reads = short _ _ _ is (omega (arith, c.left.ensures, w.if-left-size.true)); inside = tt }
      | then-left-size-via-else-left-size+then-s-at-ne0 w ↦ record {
        reads = bad_text _ _ _ is (omega (arith, c.left.ensures, w.if-left-size.false)) w.if-s-at-ne0.true;
        inside = tt;
      }
    ]

pub returns : goal.returns
returns c =
    let a = c.args in
    let is = found a.s.now a.self.at c.if-s-at.false c.in-Some.ensures in
    record { reads = text _ _ _ is (omega (arith, c.left.ensures, c.if-left-size.false)) c.if-s-at-ne0.false; inside = omega (arith, c.left.ensures, c.if-left-size.false) }
