pub mod Counts
pub mod BitLaws
pub mod ListLaws
