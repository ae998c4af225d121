-- The long form of an index is the low 24 bits of a U4, judged after it is known not to be cut.
use borrow.Author.Rules.{rules}
use mathlib.Core.Path.{◌≡◌}
use native.Mathlib.Omega.{arith}
use Rattle.std.specs.Prelude.{Err}
use Rattle.format.proofs.Places.{long_cut, long_is, long_bad}
use Rattle.wire.proofs.cursor.Cursor.long_index.Goals as goal

pub returns-in_err-n : goal.returns-in_err-n
returns-in_err-n c =
    let told : c.from_residual.result ≡ Err c.in_err-n.field-0.0 = search rules in
    rw told (long_cut c.in_err-n.ensures)

pub returns-then-index-lt-FIRST_LONG_INDEX : goal.returns-then-index-lt-FIRST_LONG_INDEX
returns-then-index-lt-FIRST_LONG_INDEX c = long_bad c.in_ok-n.ensures c.if-index-lt-FIRST_LONG_INDEX.true

pub returns : goal.returns
returns c = long_is c.in_ok-n.ensures (omega (arith, c.if-index-lt-FIRST_LONG_INDEX.false))
