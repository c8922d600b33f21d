pub mod Stores
pub mod Passes
pub mod Words
