pub mod AnswerLaws
pub mod OneMerge
pub mod Example
