pub mod Sets
pub mod Gathering
pub mod Lessening
