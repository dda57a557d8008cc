-- Lists that rise by name, and what is among their items.
pub mod Rising
-- A read depends on the names that it passes.
pub mod Locality
-- What a call comes to depends on its ranges alone.
pub mod Ranges
-- A change is of one name.
pub mod Changing
-- Locks of a sort, which a transaction holds until it ends, and whom they stop.
pub mod Holding
-- Occupied names: those that have a record, or that a transaction under way wrote.
pub mod Occupied
-- Edges and names.
pub mod EdgeOrder
-- Ranges that a transaction's locks shut.
pub mod Shut
-- Databases by name and by number, and how changes of records change a store.
pub mod Stores
-- Indexes by the numbers of databases, which transactions keep up.
pub mod Upkeep
-- Databases with their numbers, in rising order.
pub mod NumberedLists
-- What a call comes to through indexes.
pub mod Through
-- Where cursors stand, and where calls leave them.
pub mod Places
-- What holds of each transaction's calls, and of the environment that they were answered in.
pub mod Keeping
-- An index and its primary, and a commit.
pub mod IndexBases
-- The calls on records, one by one.
pub mod Calls
-- A database as a transaction sees it.
pub mod Here
-- Pairs of indexes, as transactions see them.
pub mod SeenIndexes
-- A transaction ends.
pub mod Ending
-- A call gets its locks and is evaluated.
pub mod Calling
-- What a call changes, in which databases.
pub mod OneCall
-- A call keeps indexes up.
pub mod CallUpkeep
-- A call that was evaluated is told.
pub mod Told
-- Steps that change locks alone.
pub mod Quiet
-- Cursors are opened and closed.
pub mod Cursors
-- Changes of the catalog.
pub mod CatalogSteps
-- An index is made and filled.
pub mod Filling
-- Which answers evaluation gives, and which it never gives.
pub mod Replies
-- A call that waits, and its victims that end.
pub mod Victims
-- Each step of an event keeps what holds of the calls.
pub mod EventSteps
-- Each event keeps what holds of the calls.
pub mod EventsKeep
-- Indexes by name and by number.
pub mod IndexesSeen
-- What is owed at a commit, and journals.
pub mod Replaying
-- An event that met a disk fault, with another answer.
pub mod Succeeding
-- Standings that journals lead to, and attempted commits.
pub mod Attempts
-- Who waits for whom after each step of the locks.
pub mod WaitCycles
-- No cycle stands after an event.
pub mod CycleEvents
