pub mod UseLaws
pub mod LeastLaws
pub mod RoundLaws
pub mod AnswerLaws
