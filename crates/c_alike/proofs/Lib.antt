pub mod Free
pub mod Along
pub mod Outer
pub mod Programs
