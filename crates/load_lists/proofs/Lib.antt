pub mod PointWords
mod PutPoints
mod PutBytes
mod PutNames
pub mod PointsChunk
mod PointsWalk
mod NamesWalk
