-- Nothing is left, or a number is read, and then nothing is left.
use borrow.Author.Rules.{rules}
use mathlib.Core.Path.{◌≡◌, refl}
use Prim.Native.Nat.{ℕ, ◌-◌, ◌≤◌, ◌<◌}
use native.Mathlib.Omega.{arith}
use Rattle.std.specs.Prelude.{Err}
use Rattle.format.proofs.Entries.{no_entry, one_entry, entry_stops}
use Rattle.format.proofs.ReaderSteps.{on, off, given, used_up, left_over, faulty}
use Rattle.validate_layers.proofs.layer.parent.Goals as goal

nothing_left : {n long at : ℕ} → n ≡ long - at → n < 1 → long ≤ at
nothing_left e l = omega arith

some_left : {n long at : ℕ} → n ≡ long - at → 1 ≤ n → at < long
some_left e l = omega arith

pub returns-then-left-lt1 : goal.returns-then-left-lt1
returns-then-left-lt1 c =
    let none = nothing_left c.left.ensures c.if-left-lt1.true in
    used_up (on _ (no_entry _ none) (given refl)) none

pub returns-in_err-next : goal.returns-in_err-next
returns-in_err-next c =
    let told : c.from_residual.result ≡ Err c.in_err-next.field-0.0 = search rules in
    let some = some_left c.left.ensures c.if-left-lt1.false in
    rw told (faulty (off _ (entry_stops _ some c.in_err-next.ensures.says)))

pub returns-then-next-s : goal.returns-then-next-s
returns-then-next-s c =
    let some = some_left c.left.ensures c.if-left-lt1.false in
    left_over (on _ (one_entry _ some c.in_ok-next.ensures.says) (given refl)) c.if-next-s.true

pub returns : goal.returns
returns c =
    let some = some_left c.left.ensures c.if-left-lt1.false in
    used_up (on _ (one_entry _ some c.in_ok-next.ensures.says) (given refl)) c.if-next-s.false
