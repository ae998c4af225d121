pub mod ListingParts
pub mod AfterReading
