pub mod OutBuffer
pub mod Lsn
