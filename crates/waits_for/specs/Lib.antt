pub mod Cycles
pub mod Walk
