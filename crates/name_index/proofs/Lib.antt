pub mod HashLoop
pub mod Links
pub mod NewName
pub mod HeldNames
pub mod DifferentNames
mod ListedNames
