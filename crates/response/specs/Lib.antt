pub mod Printed
pub mod Response
