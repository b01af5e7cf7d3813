pub mod Small
pub mod Kept
pub mod Walked
pub mod Whole
pub mod Along
pub mod Growth
pub mod Flows
pub mod Accounted
