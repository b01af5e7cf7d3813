pub mod Known
pub mod Marks
pub mod Reading
pub mod Sees
pub mod Reader
