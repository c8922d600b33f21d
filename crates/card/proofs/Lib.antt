mod RangeLaws
pub mod PassLaws
