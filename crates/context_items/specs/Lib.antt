pub mod Marks
pub mod Items
pub mod Flat
pub mod Unshadowed
