pub mod Events
pub mod Schedules
pub mod Inputs
