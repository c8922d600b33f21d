pub mod Held
pub mod Going
pub mod Running
pub mod Whole
pub mod Readings
pub mod Listing
