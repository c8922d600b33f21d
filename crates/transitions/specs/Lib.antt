pub mod Places
pub mod Area
pub mod Writes
pub mod Next
pub mod Occurrences
pub mod Data
