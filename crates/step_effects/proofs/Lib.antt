pub mod Threads
pub mod Acts
pub mod Steps
pub mod Turning
pub mod Reaching
pub mod Todos
