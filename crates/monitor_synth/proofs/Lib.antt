pub mod WeightSums
pub mod Rising
pub mod OfSets
