-- Redo over a log that is one entry longer.
pub mod RedoLaws
-- What stands under a name after changes, and what of it a redo from an LSN on leaves.
pub mod Lasts
-- A log that an environment works on, one entry longer.
pub mod Standing
-- Records as lists, and name by name.
pub mod Listing
-- Which store the first entries of a log leave.
pub mod Leaving
-- What a crash leaves of a log that recovers transactions.
pub mod Images
-- A log that an environment works on, longer by the entries of a transaction.
pub mod Appending
-- It recovers the transaction.
pub mod Recovering
-- A redo and a replay with one list of pending changes, entry by entry. The data of each put may be marked with its LSN.
pub mod Replays
-- Files of a log of puts, deletes and commits alone are read as a replay of the whole log reads them.
pub mod Alike
-- The numbers of a meaning are past those of the log read again.
pub mod Drawn
-- Files that are read with no corruption.
pub mod Opened
-- A log that is longer by a checkpoint's end.
pub mod Ending
-- Which files of a log are needed.
pub mod NeededFiles
-- A log that was found, and what an environment begins with.
pub mod Found
-- The log worked by hand.
pub mod Worked
-- The nodes that are put with what is read of their names.
pub mod Loading
