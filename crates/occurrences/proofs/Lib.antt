pub mod StoreLaws
pub mod GatherLaws
