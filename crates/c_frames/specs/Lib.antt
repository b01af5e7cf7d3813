pub mod Heights
pub mod Positions
pub mod LocalValues
pub mod Names
pub mod Frames
