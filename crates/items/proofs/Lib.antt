pub mod ItemLaws
pub mod AreaLaws
pub mod NextLaws
pub mod ShiftLaws
