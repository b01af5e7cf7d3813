pub mod Parser
pub mod Operators
pub mod Exact
pub mod Gives
pub mod Sums
pub mod SumParser
pub mod Promise
