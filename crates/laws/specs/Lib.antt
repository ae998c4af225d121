pub mod Conditions
pub mod FaultStarts
