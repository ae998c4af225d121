-- Each turn reads one pair more, up to the end or the first fault.
use borrow.Author.Rules.{rules}
use mathlib.Core.Path.{◌≡◌, refl}
use native.Mathlib.Omega.{arith}
use Rattle.std.specs.Prelude.{Err}
use Rattle.format.specs.Promises.{nothing}
use Rattle.format.proofs.Entries.{many_alone, many_turn, many_stop, many_end}
use Rattle.format.proofs.ReaderSteps.{used_up, faulty}
use Rattle.validate_taggings.proofs.tagging.pairs.Goals as goal

pub loop-at-init : goal.loop-at-init
loop-at-init c = many_alone nothing (λ ps. tt) (λ ps. refl)

pub returns-in_err-next : goal.returns-in_err-next
returns-in_err-next c =
    let told : c.from_residual.result ≡ Err c.in_err-next.field-0.0 = search rules in
    rw told (faulty (record { is = many_stop c.loop-at.invariant c.loop-at-test.true c.in_err-next.ensures.says }))

pub loop-at-smaller : goal.loop-at-smaller
loop-at-smaller c = omega (arith, c.in_ok-next.ensures.moves, c.loop-at-test.true)

pub loop-at-preserved : goal.loop-at-preserved
loop-at-preserved c =
    let w = c.in_ok-next.ensures in
    many_turn c.loop-at.invariant c.loop-at-test.true w.says (omega (arith, w.moves)) (λ x xs e. refl)

pub returns : goal.returns
returns c = used_up (record { is = many_end c.loop-at.invariant c.loop-at-test.false }) c.loop-at-test.false
