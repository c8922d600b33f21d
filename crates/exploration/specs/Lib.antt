pub mod Expected
pub mod Reaches
pub mod Phases
