pub mod FirstForm
pub mod Shown
pub mod Sets
pub mod Bodies
pub mod Locks
pub mod Size
