-- Each turn puts one vertex more, and none is cut.
use lib.ListN.{length}
use Rattle.load_vertices.proofs.PutVertices.{VerticesStored}
use Rattle.load_vertices.proofs.vertices.put_vertices.Given as goal

abbrev pub invariant-loop-word : goal.invariant-loop-word
invariant-loop-word g l =
    VerticesStored g.I.Index.reader (length l.initial.word-items) l.lists.points l.lists.base l.s l.initial.c.at l.initial.word-items l.word-items l.c.at l.word-index
