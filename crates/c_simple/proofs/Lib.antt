pub mod Shorter
pub mod Turns
pub mod Spelled
pub mod Sounds
pub mod Begins
pub mod Found
pub mod Completes
pub mod Same
