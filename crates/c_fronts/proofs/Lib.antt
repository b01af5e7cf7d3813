pub mod Put
pub mod Expressions
pub mod Simple
pub mod Statements
pub mod Outer
