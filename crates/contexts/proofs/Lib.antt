pub mod Grows
pub mod Names
pub mod Befores
pub mod Inverts
pub mod Agreeing
pub mod Runs
