pub mod Acts
pub mod Traces
