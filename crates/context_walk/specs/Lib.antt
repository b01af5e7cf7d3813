pub mod Shown
pub mod Found
pub mod Places
pub mod Steps
pub mod Prepared
pub mod Walking
pub mod Starts
