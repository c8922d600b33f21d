pub mod Walked
pub mod Sums
pub mod Walk
