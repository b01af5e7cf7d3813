pub mod Turns
pub mod Effects
pub mod Todos
