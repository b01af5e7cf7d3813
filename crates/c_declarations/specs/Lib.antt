pub mod Words
pub mod Parsers
pub mod Shown
pub mod Spelled
