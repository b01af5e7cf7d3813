pub mod Outline
pub mod Moves
pub mod Rows
pub mod Points
pub mod Leads
pub mod Whole
