pub mod Example
pub mod Lines
pub mod Parts
pub mod ReadBack
pub mod Room
