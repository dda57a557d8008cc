-- The fields behind the first one.
pub mod Fields
-- The pairs of records, in the order of the records.
pub mod Pairs
