-- A walk over the polygons that puts each.
use Rattle.mesh.proofs.PolygonEntries.{room}
use Rattle.write_runs.proofs.PolsEntries.{room as put_room, turn, end}
use Rattle.write_runs.proofs.polygons.put_polygons.Goals as goal

pub slice_bounds-put_polygon-end : goal.slice_bounds-put_polygon-end
slice_bounds-put_polygon-end c = room c.loop-entry.invariant.walk c.next.new.self _ c.in-Some.ensures.steps c.polygon_at-p.ensures

pub put_polygon-next-requires : goal.put_polygon-next-requires
put_polygon-next-requires c =
    put_room c.loop-entry.invariant c.next.new.self _ c.in-Some.ensures.steps c.polygon_at-p.ensures

pub loop-entry-preserved : goal.loop-entry-preserved
loop-entry-preserved c =
    turn c.loop-entry.invariant c.next.new.self _ c.in-Some.ensures.steps c.polygon_at-p.ensures c.put_polygon-next.ensures

pub returns : goal.returns
returns c = end c.loop-entry.invariant c.next.new.self c.in-None.ensures.steps
