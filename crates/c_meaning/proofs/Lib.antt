pub mod Reading
pub mod Unions
pub mod Masks
pub mod Closing
