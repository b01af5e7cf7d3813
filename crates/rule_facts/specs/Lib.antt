pub mod Apart
pub mod Statements
pub mod Elements
pub mod Threading
pub mod Regular
pub mod FromLast
pub mod Meant
