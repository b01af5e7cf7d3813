pub mod Fresh
pub mod FlatWalk
pub mod FlatProgram
pub mod Loops
pub mod Scoped
