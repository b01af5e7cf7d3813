pub mod Tables
pub mod Seen
pub mod Walk
pub mod Leads
pub mod Smallness
