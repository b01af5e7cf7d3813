pub mod Mutexes
pub mod Names
pub mod Starts
