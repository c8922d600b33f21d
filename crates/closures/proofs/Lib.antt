pub mod NumberLaws
pub mod AreaLaws
pub mod FillLaws
pub mod LeadLaws
pub mod MaskLaws
pub mod ClosureLaws
pub mod AfterLaws
