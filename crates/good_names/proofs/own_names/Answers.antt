-- The names that are left decide, as long as each so far was good by itself.
use mathlib.Core.Path.{refl}
use Rattle.good_names.proofs.NameWalk.{own_room, own_turn, own_fails, own_end}
use Rattle.good_names.proofs.own_names.Goals as goal

pub slice_bounds-own_name-end : goal.slice_bounds-own_name-end
slice_bounds-own_name-end c =
    own_room c.loop-n.invariant c.loop-n-test.true refl

pub returns-then-not-own_name : goal.returns-then-not-own_name
returns-then-not-own_name c =
    own_fails c.loop-n.invariant c.loop-n-test.true refl c.own_name.ensures c.if-not-own_name.true

pub loop-n-preserved : goal.loop-n-preserved
loop-n-preserved c =
    own_turn c.loop-n.invariant c.loop-n-test.true refl c.own_name.ensures c.if-not-own_name.false

pub returns : goal.returns
returns c = own_end c.loop-n.invariant c.loop-n-test.false
