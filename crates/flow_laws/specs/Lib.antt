pub mod Nets
pub mod Laws
pub mod Conditions
pub mod StuckSets
