-- Own changes in a primary and in its index.
pub mod Keeping
