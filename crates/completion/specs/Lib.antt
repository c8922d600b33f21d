pub mod Completion
pub mod Sums
