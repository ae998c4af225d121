-- What the answer on the strings of a SURF says, in the specification's words.
use Rattle.std.specs.Prelude.{ℕ, List, Result}
use Rattle.format.specs.declared.Kind.{Kind}
use Rattle.format.specs.Bodies.{surface_strings}
use Rattle.wire.specs.declared.Refusal.{Refusal}
use Rattle.wire.specs.declared.cursor.Cursor.{Cursor}
use Rattle.wire.specs.Promises.{StepAt}

pub record StringsAt (kind : Kind) (s : List ℕ) (answer : Result Cursor Refusal) : Type 0 where
  pub reads : StepAt (surface_strings kind) 1 s 8 answer
