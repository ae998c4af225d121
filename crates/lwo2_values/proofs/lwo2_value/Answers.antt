-- Tag by tag, as the specification asks for them; the tags are the numbers of their four letters.
use borrow.Author.Rules.{rules}
use mathlib.Core.Path.{◌≡◌}
use Rattle.std.specs.Prelude.{Err}
use Rattle.format.specs.Bytes.{number}
use Rattle.surface_levels.proofs.ValueBodies.{given_value, given_stop, unlisted_value}
use Rattle.lwo2_values.proofs.Lwo2Bodies.{lwo2_colour, lwo2_level, lwo2_side, lwo2_unlisted}
use Rattle.lwo2_values.proofs.lwo2_value.Goals as goal

pub returns-in_err-float_colour : goal.returns-in_err-float_colour
unfolding number
returns-in_err-float_colour c =
    let told : c.from_residual.result ≡ Err c.in_err-float_colour.field-0.0 = search rules in
    rw told (given_stop (lwo2_colour _ c.if-tag-eq-COLR.true) c.in_err-float_colour.ensures)

pub returns-then-tag-eq-COLR : goal.returns-then-tag-eq-COLR
unfolding number
returns-then-tag-eq-COLR c = given_value (lwo2_colour _ c.if-tag-eq-COLR.true) c.in_ok-float_colour.ensures

pub returns-in_err-enveloped_level : goal.returns-in_err-enveloped_level
returns-in_err-enveloped_level c =
    let told : c.from_residual-in_err-enveloped_level.result ≡ Err c.in_err-enveloped_level.field-0.0 = search rules in
    rw told (given_stop (lwo2_level _ c.in-Some.which c.in-Some.ensures) c.in_err-enveloped_level.ensures)

pub returns-in-Some : goal.returns-in-Some
returns-in-Some c = given_value (lwo2_level _ c.in-Some.which c.in-Some.ensures) c.in_ok-enveloped_level.ensures

pub returns-in_err-side : goal.returns-in_err-side
unfolding number
returns-in_err-side c =
    let told : c.from_residual-in_err-side.result ≡ Err c.in_err-side.field-0.0 = search rules in
    rw told (given_stop (lwo2_side _ c.if-tag-eq-SIDE.true) c.in_err-side.ensures)

pub returns-then-tag-eq-SIDE : goal.returns-then-tag-eq-SIDE
unfolding number
returns-then-tag-eq-SIDE c = given_value (lwo2_side _ c.if-tag-eq-SIDE.true) c.in_ok-side.ensures

pub returns : goal.returns
unfolding number
returns c = unlisted_value (lwo2_unlisted _ c.if-tag-eq-COLR.false c.in_default.ensures c.if-tag-eq-SIDE.false) c.args.sub.body_starts_inside
