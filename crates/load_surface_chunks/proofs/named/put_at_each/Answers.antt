-- The records of the names that were passed are as they will be, and each turn puts or keeps one (`RecordAtNames`).
use Rattle.load_surface_chunks.proofs.RecordAtNames.{end, name_room, turn_same, turn_other}
use Rattle.load_surface_chunks.proofs.named.put_at_each.Goals.{then-same_bytes, else-same_bytes}
use Rattle.load_surface_chunks.proofs.named.put_at_each.Goals as goal

pub slice_bounds-same_bytes-end : goal.slice_bounds-same_bytes-end
slice_bounds-same_bytes-end c = name_room c.loop-i.invariant.1 c.loop-i-test.true

pub loop-i-preserved : goal.loop-i-preserved
loop-i-preserved c =
    let k = c.loop-i.invariant in
    let is = c.same_bytes.ensures in (
      k.0,
      elim c.if-same_bytes.branch [
        | then-same_bytes w ↦ rw (w.records-is, w.at-is) (turn_same k.1 c.loop-i-test.true is w.if-same_bytes.true w.store.ensures)
        | else-same_bytes w ↦ rw (w.records-is, w.at-is) (turn_other k.1 c.loop-i-test.true is w.if-same_bytes.false)
      ],
    )

pub returns : goal.returns
returns c = end c.loop-i.invariant.1 c.loop-i-test.false
