pub mod Taking
pub mod Undoing
