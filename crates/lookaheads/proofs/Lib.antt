pub mod LookLaws
pub mod RowLaws
