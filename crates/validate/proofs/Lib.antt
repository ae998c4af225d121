mod FileCounts
mod OneChunkMore
mod ChunksWalk
mod FileJudged
pub mod NeedsBound
