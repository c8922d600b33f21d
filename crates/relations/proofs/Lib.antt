pub mod StateLaws
pub mod PathLaws
pub mod ReadLaws
pub mod IncludeLaws
pub mod Decided
