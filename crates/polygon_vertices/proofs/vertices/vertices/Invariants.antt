-- Each turn reads one vertex more, and its first fault is that of them all.
use Rattle.format.specs.Bodies.{vertex}
use Rattle.polygon_vertices.proofs.CountedTurns.{Turns}
use Rattle.polygon_vertices.proofs.vertices.vertices.Given as goal

abbrev pub invariant-loop : goal.invariant-loop
invariant-loop g l = Turns 2 (vertex g.I.Index.reader l.points) l.n l.s l.fn.from.at l.c.at l.counter
