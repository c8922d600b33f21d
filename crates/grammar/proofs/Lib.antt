pub mod CardLaws
pub mod Yield
pub mod Derive
pub mod Closed
pub mod ShortestLaws
