pub mod Grammar
pub mod Card
pub mod Useful
pub mod Shortest
pub mod Prefix
