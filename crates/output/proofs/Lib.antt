pub mod PutSoFar
pub mod Parts
pub mod Chunks
