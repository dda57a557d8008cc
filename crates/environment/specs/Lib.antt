pub mod Calls
pub mod Limits
pub mod Written
pub mod Valid
pub mod Whole
pub mod Steps
pub mod Answering
-- Changes of records as one call makes them.
pub mod Changing
pub mod Writing
pub mod Committing
pub mod Ending
-- Of which database a change of the catalog is.
pub mod Catalog
-- The databases beside that of a call.
pub mod Beside
pub mod Access
-- A call on records that is a transaction of its own, among others.
pub mod Auto
pub mod Resuming
pub mod OwnEnds
-- A call that waited and changes something.
pub mod Again
-- Calls that open and close cursors.
pub mod Cursors
-- Steps of maintenance.
pub mod Turning
-- A database of a store, and the records that an environment has of it.
pub mod Databases
