-- The block's names are new and at hand, and those that were looked up after it are none of them.
use mathlib.Core.Path.{sym, ◌∙◌}
use native.Mathlib.Omega.{arith}
use Rattle.good_names.proofs.NamePass.{end, name_room, repeated, is_new, go_on, name_fits, take_in, next_taken, next_left}
use Rattle.good_names.proofs.pass.Goals.{then-next-i, else-next-i}
use Rattle.good_names.proofs.pass.Goals as goal

pub slice_bounds-find-end : goal.slice_bounds-find-end
slice_bounds-find-end c = name_room c.loop-i.invariant c.loop-i-test.true

pub returns-then-is_some : goal.returns-then-is_some
returns-then-is_some c = repeated c.loop-i.invariant c.loop-i-test.true _ c.find.ensures (sym c.if-is_some.true ∙ c.is_some.ensures)

pub add-requires : goal.add-requires
add-requires c =
    let y = next_taken _ _ _ c.is_full.ensures c.if-next-i.true in
    name_fits c.loop-i.invariant c.loop-i-test.true y.0 y.1

pub loop-i-preserved : goal.loop-i-preserved
loop-i-preserved c =
    let v = c.loop-i.invariant in
    let some = c.loop-i-test.true in
    let new = is_new v some _ c.find.ensures (sym c.if-is_some.false ∙ c.is_some.ensures) in
    elim c.if-next-i.branch [
      | then-next-i w ↦
          let y = next_taken _ _ _ c.is_full.ensures w.if-next-i.true in
          rw (w.block-is, w.next-is, w.place-is) (take_in v some new y.0 y.1 w.add.ensures)
      | else-next-i w ↦
          rw (w.block-is, w.next-is, w.place-is)
          (go_on v some new (λ e. let z = v.begun e in next_left _ _ _ c.is_full.ensures w.if-next-i.false (omega arith) (omega arith)))
    ]

pub returns : goal.returns
returns c = end c.loop-i.invariant c.loop-i-test.false
