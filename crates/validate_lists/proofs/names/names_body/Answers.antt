-- The names before the place are a chain of strings, and what is counted is theirs.
use borrow.Author.Rules.{rules}
use mathlib.Core.Path.{◌≡◌}
use native.Mathlib.Omega.{arith}
use Rattle.std.specs.Prelude.{Err}
use Rattle.wire.proofs.Items.{inside}
use Rattle.validate_lists.proofs.CountedNames.{begin, turn, unended, refused, end}
use Rattle.validate_lists.proofs.names.names_body.Goals as goal

pub loop-at-init : goal.loop-at-init
loop-at-init c = begin

pub returns-in_err-n : goal.returns-in_err-n
returns-in_err-n c =
    let told : c.from_residual.result ≡ Err c.in_err-n.field-0.0 = search rules in
    rw told (unended c.loop-at.invariant c.loop-at-test.true c.in_err-n.ensures)

pub new_name-requires : goal.new_name-requires
new_name-requires c =
    let w = c.loop-at.invariant in
    record { earlier = w.earlier; chain = w.chain; there = omega (arith, inside c.in_ok-n.ensures) }

pub returns-then-not-new_name : goal.returns-then-not-new_name
returns-then-not-new_name c = refused c.loop-at.invariant c.loop-at-test.true c.in_ok-n.ensures (rw c.if-not-new_name.true at c.new_name.ensures)

pub loop-at-preserved : goal.loop-at-preserved
loop-at-preserved c = turn c.loop-at.invariant c.loop-at-test.true c.in_ok-n.ensures (rw c.if-not-new_name.false at c.new_name.ensures)

pub overflow_add-count : goal.overflow_add-count
overflow_add-count c = omega (arith, (loop-at-preserved c).few)

pub overflow_add-bytes : goal.overflow_add-bytes
overflow_add-bytes c = omega (arith, (loop-at-preserved c).few)

pub loop-at-smaller : goal.loop-at-smaller
loop-at-smaller c =
    omega (arith, inside c.in_ok-n.ensures, c.loop-at-test.true)

pub returns : goal.returns
returns c = end c.loop-at.invariant c.loop-at-test.false
