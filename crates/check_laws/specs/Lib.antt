pub mod Noting
pub mod Trees
pub mod Parts
pub mod Rest
pub mod Check
