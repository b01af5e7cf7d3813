pub mod Weighed
pub mod Raised
pub mod Waiting
