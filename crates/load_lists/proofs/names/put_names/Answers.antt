-- Each turn puts one name more, and no string is open, since the body was judged.
use borrow.Author.Rules.{rules}
use Rattle.load_lists.proofs.PutNames.{names_begin, never_open, NameRoom, rooms, names_turn, names_end}
use Rattle.load_lists.proofs.PutBytes.{copied}
use Rattle.load_lists.proofs.names.put_names.Goals.{In-Ok}
use Rattle.load_lists.proofs.names.put_names.Goals as goal

pub loop-at-init : goal.loop-at-init
loop-at-init c = names_begin (search rules) c.requires

-- what the name of this turn needs
room : (x : In-Ok) → NameRoom x.loop-at.invariant x.in-Ok.n x.in-Ok.next.at
room x = rooms x.loop-at.invariant x.loop-at-test.true x.in-Ok.ensures

pub returns-in_default : goal.returns-in_default
returns-in_default c = absurd (never_open c.loop-at.invariant c.loop-at-test.true c.in_default.ensures)

pub overflow_cast-lengths : goal.overflow_cast-lengths
overflow_cast-lengths c = let r = room (goal.at.overflow_cast-lengths c).In-Ok in search (rules, r)

pub offset_bounds-lengths-i : goal.offset_bounds-lengths-i
offset_bounds-lengths-i c = let r = room (goal.at.offset_bounds-lengths-i c).In-Ok in search (rules, r)

pub bounds-lengths-i : goal.bounds-lengths-i
bounds-lengths-i c = let r = room (goal.at.bounds-lengths-i c).In-Ok in search (rules, r)

pub slice_bounds-copy_name-end : goal.slice_bounds-copy_name-end
slice_bounds-copy_name-end c = let r = room (goal.at.slice_bounds-copy_name-end c).In-Ok in search (rules, r)

pub slice_bounds-copy_name-end-in-loop-at : goal.slice_bounds-copy_name-end-in-loop-at
slice_bounds-copy_name-end-in-loop-at c =
    let r = room (goal.at.slice_bounds-copy_name-end-in-loop-at c).In-Ok in
    search (rules, r)

pub overflow_add-i : goal.overflow_add-i
overflow_add-i c = let r = room (goal.at.overflow_add-i c).In-Ok in search (rules, r)

pub overflow_add-m : goal.overflow_add-m
overflow_add-m c = record { fits = (room (goal.at.overflow_add-m c).In-Ok).fits }

pub loop-at-preserved : goal.loop-at-preserved
loop-at-preserved c =
    let r = room (goal.at.loop-at-preserved c).In-Ok in
    names_turn c.loop-at.invariant c.loop-at-test.true c.in-Ok.ensures (copied _ _ _ r.there c.copy_name.ensures)

pub returns : goal.returns
returns c = names_end c.loop-at.invariant c.loop-at-test.false
