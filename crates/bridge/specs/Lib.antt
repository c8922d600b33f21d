pub mod Actions
pub mod Premises
