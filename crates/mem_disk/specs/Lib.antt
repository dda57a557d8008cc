pub mod CrashStates
pub mod Memory
pub mod Replay
