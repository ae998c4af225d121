pub mod FileParts
pub mod Answers
pub mod Outputs
