pub mod PolsEntries
pub mod Runs
