pub mod PolygonsInTables
mod PolygonsChunk
mod PolygonsWalk
