-- A walk over the polygons that puts a line for each.
use Rattle.std.specs.Iterator.Adapters.{enumerate_source}
use Rattle.mesh.proofs.PolygonEntries.{room}
use Rattle.listing_text.proofs.PrintedPolygons.{turn, end}
use Rattle.listing_text.proofs.polygons.put_polygons.Goals as goal

pub slice_bounds-put_polygon-end : goal.slice_bounds-put_polygon-end
slice_bounds-put_polygon-end c = room c.loop-number.invariant.walk (enumerate_source c.next.new.self) _ c.in-Some.ensures.steps.0 c.polygon_at-p.ensures

pub loop-number-preserved : goal.loop-number-preserved
loop-number-preserved c =
    rw c.in-Some.ensures.steps.2 (turn c.loop-number.invariant (enumerate_source c.next.new.self) _ c.in-Some.ensures.steps.0 c.polygon_at-p.ensures c.in-Some.ensures.steps.1 c.put_polygon-next.ensures)

pub returns : goal.returns
returns c = end c.loop-number.invariant (enumerate_source c.next.new.self) c.in-None.ensures.steps.0
