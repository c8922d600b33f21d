pub mod Laws
pub mod Walks
pub mod Front
pub mod Made
pub mod Answers
