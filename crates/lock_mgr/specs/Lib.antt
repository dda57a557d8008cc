pub mod Deadlock
pub mod Reach
