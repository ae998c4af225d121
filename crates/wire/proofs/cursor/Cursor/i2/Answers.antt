-- An I2 is two bytes whose sixteen bits stand for a signed number.
use borrow.Author.Rules.{rules}
use mathlib.Core.Path.{◌≡◌}
use native.Mathlib.Omega.{arith}
use mir.Syntax.{w16}
use mir.Val.{to_z, of_z}
use Rattle.std.specs.Prelude.{Err, ◌-◌, ◌<◌, length}
use Rattle.format.proofs.Places.{uint_cut, uint_whole, i2_cut, i2_whole}
use Rattle.wire.proofs.cursor.Cursor.i2.Goals as goal

pub returns-in_err-next : goal.returns-in_err-next
returns-in_err-next c =
    let told : c.from_residual.result ≡ Err c.in_err-next.field-0.0 = search rules in
    let short : length c.args.s.now - c.args.self.at < 2 = omega (arith, c.in_err-next.ensures.0) in
    rw (told, c.in_err-next.ensures.1) (i2_cut (uint_cut 2 short))

pub returns : goal.returns
returns c =
    let e : to_z w16 (of_z w16 c.signed16.result) ≡ c.signed16.result = search rules in
    rw (e, c.in_ok-next.ensures.1) (i2_whole (uint_whole 2 c.in_ok-next.ensures.0 c.pair.ensures) c.signed16.ensures)
