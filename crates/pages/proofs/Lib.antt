pub mod Form
pub mod Front
pub mod Lines
pub mod Pieces
pub mod ReadBack
pub mod Room
pub mod Writing
