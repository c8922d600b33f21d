pub mod Path
pub mod Edge
pub mod Walk
pub mod Steps
