-- A name is among those that are left, or is one that was passed.
use native.Mathlib.Omega.{arith}
use Rattle.good_entries.proofs.NameWalk.{search_room, search_turn, found, not_there}
use Rattle.good_entries.proofs.names.among.Goals as goal

pub overflow_add-end : goal.overflow_add-end
overflow_add-end c = omega (arith, search_room c.loop-length.invariant c.loop-length-test.true)

pub slice_bounds-same_bytes-end : goal.slice_bounds-same_bytes-end
slice_bounds-same_bytes-end c = search_room c.loop-length.invariant c.loop-length-test.true

pub returns-then-same_bytes : goal.returns-then-same_bytes
returns-then-same_bytes c =
    found c.loop-length.invariant c.loop-length-test.true c.same_bytes.ensures c.if-same_bytes.true

pub loop-length-preserved : goal.loop-length-preserved
loop-length-preserved c =
    search_turn c.loop-length.invariant c.loop-length-test.true c.same_bytes.ensures c.if-same_bytes.false

pub returns : goal.returns
returns c = not_there c.loop-length.invariant c.loop-length-test.false
