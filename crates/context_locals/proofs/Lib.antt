pub mod Shown
pub mod Collecting
pub mod Declaring
pub mod Keeping
pub mod Closing
pub mod Constants
