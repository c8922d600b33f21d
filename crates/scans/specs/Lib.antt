pub mod OpenFront
