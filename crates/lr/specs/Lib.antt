pub mod Sets
pub mod Items
pub mod States
pub mod Cells
pub mod Relations
