pub mod Writes
pub mod Known
pub mod Operands
