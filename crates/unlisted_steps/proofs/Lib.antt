pub mod Area
pub mod Outcomes
