pub mod Demand
pub mod Starred
pub mod Examples
pub mod Demands
pub mod Joined
