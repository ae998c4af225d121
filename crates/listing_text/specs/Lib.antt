pub mod Text
pub mod Prints
