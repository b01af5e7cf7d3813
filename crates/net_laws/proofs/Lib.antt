pub mod Graph
pub mod Sums
pub mod Least
pub mod Stuck
pub mod Emptied
pub mod Masks
pub mod Decided
pub mod Minimal
