pub mod GoodPolygons
pub mod NameWalk
pub mod RecordWalk
