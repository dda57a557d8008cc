-- No two transactions change the same record.
pub mod Apart
-- What a transaction sees of an index.
pub mod Seeing
-- A transaction's own changes, as they change a store by number.
pub mod Numbering
-- A transaction commits, and the others go on to keep indexes up.
pub mod Committing
