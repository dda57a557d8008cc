-- The laws of the two tables.
pub mod Laws
