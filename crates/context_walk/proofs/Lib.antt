pub mod Pushes
pub mod Above
pub mod Preparing
pub mod Fitting
pub mod Declaring
pub mod Walking
pub mod Beginning
