pub mod Points
pub mod Accounts
pub mod Laws
pub mod StuckSets
