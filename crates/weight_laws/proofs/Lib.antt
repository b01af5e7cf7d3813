pub mod Alone
pub mod Along
pub mod Moving
pub mod Capacity
pub mod Counts
pub mod Keeping
