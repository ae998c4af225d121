pub mod FileListing
pub mod PrintedInput
pub mod Demand
