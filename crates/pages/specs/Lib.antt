pub mod Cells
pub mod Pages
pub mod Parts
pub mod Sheets
