pub mod Pass
pub mod Fault
