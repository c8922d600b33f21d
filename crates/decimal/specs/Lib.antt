pub mod Digits
pub mod Form
pub mod Page
pub mod Scanning
pub mod Writing
