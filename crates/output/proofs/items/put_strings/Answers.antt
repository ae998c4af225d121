-- The names are put one after another; those that are left are cut from the bytes that are left.
use mathlib.Core.Path.{refl}
use native.Mathlib.Omega.{arith}
use Rattle.format.proofs.Indexed.{sum_index}
use Rattle.output.proofs.PutSoFar.{room, turn, end, strings_more, strings_none}
use Rattle.output.proofs.items.put_strings.Goals as goal

pub overflow_add-end : goal.overflow_add-end
overflow_add-end c =
    let a = c.args in
    omega (arith, sum_index c.loop-length.length-index a.lengths.now c.loop-length-test.true, c.loop-length.invariant.0)

pub slice_bounds-put_string-end : goal.slice_bounds-put_string-end
slice_bounds-put_string-end c =
    let a = c.args in
    omega (arith, sum_index c.loop-length.length-index a.lengths.now c.loop-length-test.true, c.loop-length.invariant.0)

pub put_string-next-requires : goal.put_string-next-requires
put_string-next-requires c =
    let a = c.args in
    room c.loop-length.invariant.1 (strings_more a.lengths.now a.bytes.now c.loop-length.length-index c.loop-length.from refl c.loop-length-test.true)

pub loop-length-preserved : goal.loop-length-preserved
loop-length-preserved c =
    let a = c.args in
    (omega (arith, sum_index c.loop-length.length-index a.lengths.now c.loop-length-test.true, c.loop-length.invariant.0), turn c.loop-length.invariant.1 (strings_more a.lengths.now a.bytes.now c.loop-length.length-index c.loop-length.from refl c.loop-length-test.true) c.put_string-next.ensures)

pub returns : goal.returns
returns c =
    let a = c.args in
    end c.loop-length.invariant.1 (strings_none a.lengths.now a.bytes.now c.loop-length.length-index c.loop-length.from c.loop-length-test.false)
