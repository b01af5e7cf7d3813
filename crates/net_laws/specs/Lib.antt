pub mod Net
pub mod Shown
pub mod Siphons
pub mod Candidates
pub mod Lines
pub mod Markings
