pub mod StoreLaws
pub mod PassLaws
pub mod DataLaws
pub mod WordLaws
