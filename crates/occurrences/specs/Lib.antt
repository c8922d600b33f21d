pub mod Stores
pub mod Gathers
