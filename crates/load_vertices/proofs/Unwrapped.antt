-- What was judged fine is read again in the second pass, and gives a value, so that it may be unwrapped.
use mathlib.Core.Path.{refl}
use Prim.Native.Nat.{ℕ}
use mathlib.Core.List.{List}
use lib.ListN.{drop}
use Rattle.std.specs.Prelude.{Result, Ok, Err}
use Rattle.std.specs.Result.{IsOk}
use Rattle.format.specs.Items.{Reader}
use Rattle.format.specs.Promises.{Keeps, Succeeds}
use Rattle.wire.specs.declared.Refusal.{Refusal}
use Rattle.wire.specs.declared.cursor.Cursor.{Cursor}
use Rattle.wire.specs.Promises.{read_as}
use Rattle.wire.proofs.ReadAgain.{never}

pub there : {A B : Type 0} {r : Reader A} {h : A → B} {size : B → ℕ} {s : List ℕ} {at : ℕ} (answer : Result (B × Cursor) Refusal)
    → Succeeds (r at (drop at s)) → Keeps r h size s at (read_as s answer) → IsOk answer
there (Ok a) w v = refl
there (Err f) w v = absurd (never w v.says)
