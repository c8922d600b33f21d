pub mod WordLaws
pub mod LengthLaws
pub mod GatherLaws
pub mod UselessLaws
