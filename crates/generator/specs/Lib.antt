pub mod Answer
pub mod Phases
