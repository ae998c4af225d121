pub mod Index
pub mod NameIndex
pub mod Listed
