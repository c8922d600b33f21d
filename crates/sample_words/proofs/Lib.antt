pub mod SumLaws
pub mod PieceLaws
pub mod WordLaws
