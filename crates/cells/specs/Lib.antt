pub mod Actions
pub mod Words
pub mod Areas
