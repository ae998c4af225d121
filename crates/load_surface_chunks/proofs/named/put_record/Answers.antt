-- With an index or without one, the same entries are put.
use Rattle.load_surface_chunks.proofs.RecordAtOne.{indexed_room, held_different}
use Rattle.load_surface_chunks.proofs.named.put_record.Goals as goal

pub put_found-requires-clause-different : goal.put_found-requires-clause-different
put_found-requires-clause-different c =
    let indexed = rw c.in-Some.is at c.requires.may_be_indexed in
    (held_different indexed, indexed_room indexed c.requires.listed_room)
