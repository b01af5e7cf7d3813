pub mod Tokens
pub mod One
pub mod Edges
pub mod Shown
