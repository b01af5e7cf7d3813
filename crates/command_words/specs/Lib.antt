pub mod Tasks
pub mod Words
pub mod Shown
pub mod Behind
