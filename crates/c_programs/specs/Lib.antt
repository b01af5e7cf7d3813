pub mod Words
pub mod Parsers
pub mod Gives
pub mod Lexed
pub mod Laws
