pub mod Decimal
pub mod PrintedSoFar
pub mod PrintedVertices
pub mod PrintedPolygons
