pub mod Lengths
pub mod Standing
pub mod Owners
pub mod Ending
pub mod Counts
pub mod Holdings
pub mod Creating
