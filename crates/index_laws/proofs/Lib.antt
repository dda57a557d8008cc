-- What a key or a name finds after own changes.
pub mod Cells
-- Own changes in a primary and in its index.
pub mod KeepingUp
