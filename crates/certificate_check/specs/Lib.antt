pub mod Judged
pub mod Covering
pub mod Answers
pub mod Making
