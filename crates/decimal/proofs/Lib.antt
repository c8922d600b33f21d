pub mod Cases
pub mod Chunks
pub mod Decimal
pub mod Parse
pub mod Scanned
pub mod Written
