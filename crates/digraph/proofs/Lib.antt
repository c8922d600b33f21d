pub mod Theory
pub mod Counts
pub mod Steps
pub mod Sums
