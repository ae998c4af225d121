-- Each turn takes one byte more.
use mathlib.Core.Path.{◌≡◌, refl, sym, ap, ◌∙◌}
use Prim.Native.Nat.{◌+◌, ◌*◌, ◌<◌}
use native.Mathlib.Omega.{arith}
use lib.ListN.{length, get_or, drop, length-drop}
use lib.Seq.{get_or-drop}
use Rattle.format.specs.Bytes.{number}
use Rattle.wire.proofs.Numbers.{number_more, room_for_one, below_more}
use Rattle.wire.proofs.cursor.number_at.Goals as goal

pub loop-i-init : goal.loop-i-init
unfolding number
loop-i-init g c = (refl, omega arith)

pub overflow_mul-n : goal.overflow_mul-n
overflow_mul-n g c =
    let few = room_for_one c.loop-i.i (omega (arith, c.loop-i-test.true, c.requires)) in
    record { fits = omega (arith, few, c.loop-i.invariant.1) }

pub overflow_add-n-in-loop-i : goal.overflow_add-n-in-loop-i
overflow_add-n-in-loop-i g c =
    let few = room_for_one c.loop-i.i (omega (arith, c.loop-i-test.true, c.requires)) in
    record { fits = omega (arith, few, c.loop-i.invariant.1, (c.type_inv.s (c.args.at + c.loop-i.i)).fits) }

pub loop-i-preserved : goal.loop-i-preserved
loop-i-preserved g c =
    let s = c.args.s.now in
    let inside : c.loop-i.i < length (drop c.args.at s) = rw length-drop (omega (arith, c.loop-i-test.true, c.requires)) in
    let here : get_or (drop c.args.at s) c.loop-i.i 0 ≡ get_or s (c.args.at + c.loop-i.i) 0 = get_or-drop c.args.at s c.loop-i.i 0 in (
      ap (λ n. n * 256 + get_or s (c.args.at + c.loop-i.i) 0) c.loop-i.invariant.0 ∙ sym (rw here at (number_more (drop c.args.at s) c.loop-i.i inside)),
      below_more c.loop-i.i _ _ c.loop-i.invariant.1 (c.type_inv.s (c.args.at + c.loop-i.i)).fits,
    )

pub returns-clause-is : goal.returns-clause-is
returns-clause-is g c = let e : c.loop-i.i ≡ g.row.N = omega (arith, c.loop-i-test.false, c.loop-i.auto.i-end) in rw e at c.loop-i.invariant.0

pub returns-clause-fits : goal.returns-clause-fits
returns-clause-fits g c = let e : c.loop-i.i ≡ g.row.N = omega (arith, c.loop-i-test.false, c.loop-i.auto.i-end) in rw e at c.loop-i.invariant.1
