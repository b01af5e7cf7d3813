pub mod Leading
pub mod Reaching
pub mod Shapes
pub mod Nets
