-- Each turn reads one detail more, and its first fault is that of them all.
use Rattle.format.specs.Bodies.{detail}
use Rattle.polygon_vertices.proofs.CountedTurns.{Turns}
use Rattle.polygon_details.proofs.details.detail_run.Given as goal

abbrev pub invariant-loop : goal.invariant-loop
invariant-loop l = Turns 2 (detail l.points l.names) l.n l.s l.fn.from.at l.c.at l.counter
