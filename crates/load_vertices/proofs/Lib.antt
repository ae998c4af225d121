pub mod Unwrapped
pub mod PutVertices
pub mod VerticesAfterCount
pub mod PutLwobEntry
