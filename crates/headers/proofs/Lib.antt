pub mod Headers
pub mod ChunkInFile
pub mod FileWalk
