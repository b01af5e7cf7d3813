pub mod Sole
pub mod Covered
pub mod Made
