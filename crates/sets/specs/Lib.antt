pub mod Bit
pub mod Tests
pub mod Lists
pub mod Reach
pub mod Words
