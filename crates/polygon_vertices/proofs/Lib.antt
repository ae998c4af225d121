pub mod CountedTurns
pub mod SignedSurfaces
