-- The type is read, and pairs follow it, or bytes that are not judged.
use borrow.Author.Rules.{rules}
use mathlib.Core.Path.{◌≡◌}
use mathlib.Core.List.{[]}
use mathlib.Core.Bool.{true, false}
use Rattle.std.specs.Prelude.{Err}
use Rattle.format.specs.Bodies.{tagging, pairs_type, tagging_body}
use Rattle.format.specs.Promises.{nothing}
use Rattle.format.specs.Bytes.{number}
use Rattle.format.proofs.ReaderSteps.{off, faulty, judged_on, judged_as, rest_unjudged}
use Rattle.validate_taggings.proofs.tagging.tagging_body.Goals as goal

pub returns-in_err-t : goal.returns-in_err-t
unfolding tagging_body
returns-in_err-t c =
    let told : c.from_residual.result ≡ Err c.in_err-t.field-0.0 = search rules in
    rw told (faulty (off _ c.in_err-t.ensures.says))

pub returns-then-t : goal.returns-then-t
unfolding tagging_body number
returns-then-t c =
    let kept : pairs_type c.in_ok-t.t ≡ true = c.if-t.true in
    judged_on _ c.in_ok-t.ensures.says (rw kept (judged_as (tagging _) c.pairs.ensures))

pub returns-else-t : goal.returns-else-t
unfolding tagging_body number
returns-else-t c =
    let other : pairs_type c.in_ok-t.t ≡ false = c.if-t.false in
    judged_on _ c.in_ok-t.ensures.says (rw other (rest_unjudged [] (tagging _) nothing))
