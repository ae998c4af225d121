-- The depth falls with each level, and on one level what is left of the sub-chunks is judged as the whole of them is.
use borrow.Author.Rules.{rules}
use mathlib.Core.Path.{◌≡◌}
use Rattle.std.specs.Prelude.{Err}
use Rattle.validate_surfaces.proofs.SubChunks.{no_depth, begin, end, stop, turn, inner_stop, inner_turn}
use Rattle.validate_surfaces.proofs.nesting.+sub_chunks.Goals as goal

pub returns-then-depth-eq0 : goal.returns-then-depth-eq0
returns-then-depth-eq0 t c = no_depth c.if-depth-eq0.true

pub loop-at-init : goal.loop-at-init
loop-at-init t c = begin _ c.if-depth-eq0.false

pub returns-in_err-sub : goal.returns-in_err-sub
returns-in_err-sub t c =
    let told : c.from_residual.result ≡ Err c.in_err-sub.field-0.0 = search rules in
    rw told (stop c.loop-at.invariant c.loop-at-test.true c.in_err-sub.ensures)

pub returns-in_err-sub_chunks : goal.returns-in_err-sub_chunks
returns-in_err-sub_chunks t c =
    let told : c.from_residual-in_err-sub_chunks.result ≡ Err c.in_err-sub_chunks.field-0.0 = search rules in
    rw told (inner_stop c.loop-at.invariant c.loop-at-test.true c.in_ok-sub.ensures c.in-Some.is (rw c.in-Some.is at c.in_err-sub_chunks.ensures))

pub loop-at-preserved-in_ok-sub_chunks : goal.loop-at-preserved-in_ok-sub_chunks
loop-at-preserved-in_ok-sub_chunks t c = inner_turn c.loop-at.invariant c.loop-at-test.true c.in_ok-sub.ensures c.in-Some.is (rw c.in-Some.is at c.in_ok-sub_chunks.ensures)

pub loop-at-preserved : goal.loop-at-preserved
loop-at-preserved t c = turn c.loop-at.invariant c.loop-at-test.true c.in_ok-sub.ensures c.in_default.is

pub returns : goal.returns
returns t c = end c.loop-at.invariant c.loop-at-test.false
