-- A walk over the polygons that puts a line for each.
use Rattle.std.specs.Iterator.Adapters.{enumerate_source, enumerate_count}
use Rattle.listing_text.proofs.PrintedPolygons.{PrintedPolygons}
use Rattle.listing_text.proofs.polygons.put_polygons.Given as goal

abbrev pub invariant-loop-number : goal.invariant-loop-number
invariant-loop-number l =
    PrintedPolygons l.polygons l.vertices l.initial.out l.at l.out l.next (enumerate_count l.number-iterator) l.first (enumerate_source l.number-iterator)
