pub mod AllNew
pub mod NamePass
pub mod NameWalk
