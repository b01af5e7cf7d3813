pub mod Noted
pub mod Loops
mod Shown
