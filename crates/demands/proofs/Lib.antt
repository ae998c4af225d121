pub mod Boundaries
pub mod Refusals
pub mod Demand1
pub mod Demand2
pub mod Insertion
pub mod Demand3
pub mod Complete
