-- Room for all that the mesh needs is room for each walk, and what the walks put is what its tables hold (`AllTables`).
use Rattle.load.proofs.AllTables.{points_room, lengths_room, bytes_room, polygons_room, records_room, all_put}
use Rattle.load.proofs.fill_tables.Goals as goal

pub fill_points-requires : goal.fill_points-requires
fill_points-requires c = points_room c.requires

pub fill_polygons-requires : goal.fill_polygons-requires
fill_polygons-requires c = polygons_room c.requires

pub fill_names-requires : goal.fill_names-requires
fill_names-requires c = (lengths_room c.requires, bytes_room c.requires)

pub fill_records-requires : goal.fill_records-requires
fill_records-requires c =
    records_room c.requires c.fill_names.ensures.0 c.fill_names.ensures.1

pub returns : goal.returns
returns c =
    all_put c.fill_points.ensures c.fill_polygons.ensures.0 c.fill_polygons.ensures.1 c.fill_names.ensures.0 c.fill_names.ensures.1 c.fill_records.ensures
