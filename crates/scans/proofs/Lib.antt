pub mod Cleared
pub mod Searching
