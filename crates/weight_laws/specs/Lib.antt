pub mod Flow
pub mod Weights
pub mod Inserted
