-- N bytes stand at the place, or the item is cut.
use borrow.Author.Rules.{rules}
use mathlib.Core.Path.{◌≡◌}
use native.Mathlib.Omega.{arith}
use Rattle.std.specs.Prelude.{Err, ◌-◌, ◌<◌, length}
use Rattle.format.proofs.Places.{uint_cut, uint_whole}
use Rattle.wire.proofs.cursor.Cursor.uint.Goals as goal

pub returns-in_err-next : goal.returns-in_err-next
returns-in_err-next g c =
    let told : c.from_residual.result ≡ Err c.in_err-next.field-0.0 = search rules in
    let short : length c.args.s.now - c.args.self.at < g.row.N = omega (arith, c.in_err-next.ensures.0) in
    rw (told, c.in_err-next.ensures.1) (uint_cut g.row.N short)

pub returns : goal.returns
returns g c = rw c.in_ok-next.ensures.1 (uint_whole g.row.N c.in_ok-next.ensures.0 c.number_at.ensures.is)
