pub mod Judged
pub mod Rows
pub mod Further
pub mod Large
