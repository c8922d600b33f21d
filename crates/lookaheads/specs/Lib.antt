pub mod LooksBack
pub mod Joins
pub mod Outcome
