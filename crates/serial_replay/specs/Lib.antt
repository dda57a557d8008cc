pub mod Replay
pub mod Cycles
pub mod Laws
pub mod Reached
pub mod Worked
