mod Halves
mod FirstZero
pub mod Numbers
pub mod ReadAgain
pub mod Items
