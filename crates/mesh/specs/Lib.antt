pub mod Lent
pub mod Polygons
pub mod Tables
