pub mod Marks
pub mod Forest
pub mod Steps
