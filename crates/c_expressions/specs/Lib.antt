pub mod Marked
pub mod Words
pub mod Parsers
pub mod Named
pub mod Gives
pub mod Honest
pub mod Ends
