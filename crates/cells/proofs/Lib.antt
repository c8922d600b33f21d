pub mod WordLaws
pub mod AreaLaws
