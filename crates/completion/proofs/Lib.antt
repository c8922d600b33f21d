pub mod Laws
pub mod Exists
pub mod Sums
pub mod Wrong
