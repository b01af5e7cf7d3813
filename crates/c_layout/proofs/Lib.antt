pub mod Readings
pub mod Fitting
