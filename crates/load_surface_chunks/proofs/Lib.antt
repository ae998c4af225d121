mod RecordAtNames
pub mod RecordAtOne
mod SurfaceChunk
mod SurfacesWalk
