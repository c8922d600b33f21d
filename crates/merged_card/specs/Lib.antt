pub mod Merged
pub mod Joined
pub mod Writing
