mod LevelTags
mod RoundedQuotient
mod FiniteFloats
pub mod ValueBodies
