-- Each way out has its law in `FormHeader`.
use borrow.Author.Rules.{rules}
use mathlib.Core.Path.{◌≡◌}
use Rattle.std.specs.Prelude.{Err}
use Rattle.format.specs.Bytes.{number}
use Rattle.validate_form.proofs.FormHeader.{too_long, too_short, not_form, no_kind, right_length, wrong_length}
use Rattle.validate_form.proofs.form.header.Goals as goal

pub returns-then-n-gt16777216 : goal.returns-then-n-gt16777216
returns-then-n-gt16777216 c = too_long _ c.if-n-gt16777216.true

pub returns-then-n-lt12 : goal.returns-then-n-lt12
returns-then-n-lt12 c = too_short _ c.if-n-gt16777216.false c.if-n-lt12.true

pub returns-then-word-ne-FORM : goal.returns-then-word-ne-FORM
unfolding number
returns-then-word-ne-FORM c =
    not_form _ c.if-n-gt16777216.false c.if-n-lt12.false c.word.ensures c.if-word-ne-FORM.true

pub returns-in_err-kind : goal.returns-in_err-kind
unfolding number
returns-in_err-kind c =
    let told : c.from_residual.result ≡ Err c.in_err-kind.field-0.0 = search rules in
    rw told (no_kind _ c.if-n-gt16777216.false c.if-n-lt12.false c.word.ensures c.if-word-ne-FORM.false c.word-2.ensures c.in_err-kind.ensures)

pub returns-then-word-n : goal.returns-then-word-n
unfolding number
returns-then-word-n c =
    right_length _ c.if-n-gt16777216.false c.if-n-lt12.false c.word.ensures c.if-word-ne-FORM.false c.word-2.ensures c.in_ok-kind.ensures c.word-3.ensures c.if-word-n.true

pub returns-else-word-n : goal.returns-else-word-n
unfolding number
returns-else-word-n c =
    wrong_length _ c.if-n-gt16777216.false c.if-n-lt12.false c.word.ensures c.if-word-ne-FORM.false c.word-2.ensures c.in_ok-kind.ensures c.word-3.ensures c.if-word-n.false
