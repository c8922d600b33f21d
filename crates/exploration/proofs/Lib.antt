pub mod Fresh
pub mod Words
pub mod Sorts
pub mod Moves
pub mod Cells
pub mod Arrives
pub mod Passes
pub mod Explores
