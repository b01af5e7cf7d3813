pub mod First
pub mod Uses
pub mod Acts
