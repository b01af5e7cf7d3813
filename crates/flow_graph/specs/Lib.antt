pub mod Shapes
pub mod Weaving
pub mod Shown
pub mod Left
pub mod Routes
pub mod Walking
pub mod Flow
