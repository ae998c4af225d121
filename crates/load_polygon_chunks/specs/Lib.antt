pub mod Promises
pub mod Held
