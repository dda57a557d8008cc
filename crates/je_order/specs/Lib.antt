pub mod Order
pub mod Edges
pub mod Words
pub mod Counts
pub mod Transactions
pub mod Options
pub mod Held
pub mod Spelled
