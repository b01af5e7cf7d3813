pub mod Words
pub mod Parsers
pub mod Gives
