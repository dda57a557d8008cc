pub mod Held
pub mod Locks
pub mod Records
pub mod Table
