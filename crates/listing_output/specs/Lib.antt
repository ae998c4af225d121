pub mod Program
pub mod Listed
pub mod Worked
