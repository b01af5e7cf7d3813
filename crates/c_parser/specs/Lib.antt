pub mod Answer
pub mod Parsed
