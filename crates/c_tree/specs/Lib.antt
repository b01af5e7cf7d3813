pub mod Expressions
pub mod Bare
pub mod Lined
pub mod Values
pub mod Numbering
pub mod Everywhere
pub mod Leaves
