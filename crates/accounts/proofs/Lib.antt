pub mod Outlined
pub mod Located
pub mod Going
pub mod Reaching
pub mod Holding
pub mod Marked
pub mod Stuck
