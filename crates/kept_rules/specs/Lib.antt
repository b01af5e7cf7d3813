pub mod Edit
pub mod Programs
pub mod Uses
pub mod Samples
