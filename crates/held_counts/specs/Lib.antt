pub mod Counts
pub mod Refusals
pub mod Held
pub mod Nets
pub mod Growth
pub mod Flows
pub mod Accounted
