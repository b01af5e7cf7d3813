pub mod Lengths
pub mod Fronts
pub mod Longest
pub mod Scanned
