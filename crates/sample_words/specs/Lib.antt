pub mod Sample
pub mod Words
