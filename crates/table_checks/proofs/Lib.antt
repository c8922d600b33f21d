pub mod VerdictLaws
pub mod ClosedLaws
