pub mod BitLaws
pub mod HasLaws
pub mod CountLaws
pub mod TestLaws
pub mod ListLaws
pub mod CoveredLaws
pub mod MemberLaws
pub mod WordLaws
