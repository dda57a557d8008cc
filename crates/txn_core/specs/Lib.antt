pub mod Totals
pub mod Known
pub mod Planning
pub mod Plans
pub mod Fills
pub mod Views
pub mod Transactions
