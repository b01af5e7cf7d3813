pub mod Faults
pub mod Causes
pub mod Proper
pub mod Laws
