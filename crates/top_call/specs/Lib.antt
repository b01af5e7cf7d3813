pub mod Answers
pub mod Fetching
pub mod Ending
pub mod Clauses
