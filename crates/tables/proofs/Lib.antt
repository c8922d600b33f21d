pub mod LayoutLaws
pub mod Product
pub mod Places
