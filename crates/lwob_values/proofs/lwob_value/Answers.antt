-- Tag by tag, as the specification asks for them; the tags are the numbers of their four letters.
use borrow.Author.Rules.{rules}
use mathlib.Core.Path.{◌≡◌}
use Rattle.std.specs.Prelude.{Err}
use Rattle.format.specs.Bytes.{number}
use Rattle.surface_levels.proofs.ValueBodies.{given_value, given_stop, unlisted_value}
use Rattle.lwob_values.proofs.LwobBodies.{lwob_colour, lwob_level, lwob_long, lwob_flags, lwob_unlisted}
use Rattle.lwob_values.proofs.lwob_value.Goals as goal

pub returns-in_err-byte_colour : goal.returns-in_err-byte_colour
unfolding number
returns-in_err-byte_colour c =
    let told : c.from_residual.result ≡ Err c.in_err-byte_colour.field-0.0 = search rules in
    rw told (given_stop (lwob_colour _ c.if-tag-eq-COLR.true) c.in_err-byte_colour.ensures)

pub returns-then-tag-eq-COLR : goal.returns-then-tag-eq-COLR
unfolding number
returns-then-tag-eq-COLR c = given_value (lwob_colour _ c.if-tag-eq-COLR.true) c.in_ok-byte_colour.ensures

pub returns-in_err-short_level : goal.returns-in_err-short_level
returns-in_err-short_level c =
    let told : c.from_residual-in_err-short_level.result ≡ Err c.in_err-short_level.field-0.0 = search rules in
    rw told (given_stop (lwob_level _ c.in-Some.which c.in-Some.ensures) c.in_err-short_level.ensures)

pub returns-in-Some : goal.returns-in-Some
returns-in-Some c = given_value (lwob_level _ c.in-Some.which c.in-Some.ensures) c.in_ok-short_level.ensures

pub returns-in_err-long_level : goal.returns-in_err-long_level
returns-in_err-long_level c =
    let told : c.from_residual-in_err-long_level.result ≡ Err c.in_err-long_level.field-0.0 = search rules in
    rw told (given_stop (lwob_long _ c.in-Some-long_level_named.which c.in-Some-long_level_named.ensures) c.in_err-long_level.ensures)

pub returns-in-Some-long_level_named : goal.returns-in-Some-long_level_named
returns-in-Some-long_level_named c = given_value (lwob_long _ c.in-Some-long_level_named.which c.in-Some-long_level_named.ensures) c.in_ok-long_level.ensures

pub returns-in_err-flags : goal.returns-in_err-flags
unfolding number
returns-in_err-flags c =
    let told : c.from_residual-in_err-flags.result ≡ Err c.in_err-flags.field-0.0 = search rules in
    rw told (given_stop (lwob_flags _ c.if-tag-eq-FLAG.true) c.in_err-flags.ensures)

pub returns-then-tag-eq-FLAG : goal.returns-then-tag-eq-FLAG
unfolding number
returns-then-tag-eq-FLAG c = given_value (lwob_flags _ c.if-tag-eq-FLAG.true) c.in_ok-flags.ensures

pub returns : goal.returns
unfolding number
returns c = unlisted_value (lwob_unlisted _ c.if-tag-eq-COLR.false c.in_default.ensures c.in_default-long_level_named.ensures c.if-tag-eq-FLAG.false) c.args.sub.body_starts_inside
