pub mod Order
pub mod Reached
pub mod Kept
pub mod Subsets
pub mod Components
pub mod Next
pub mod Sized
pub mod Listed
