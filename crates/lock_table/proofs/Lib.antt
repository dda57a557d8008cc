-- The least of some transactions, in any grouping.
pub mod LeastTxn
-- The waits that stay, behind those that were looked at before.
pub mod WaitsAfterGrant
-- What requests, grants and releases keep of one record's owners and waits.
pub mod OwnersAndWaits
-- Owners never conflict, and no wait is left that could be granted: what each change keeps of it.
pub mod Owners
-- What each call keeps of one record: it stays settled, and nobody comes in but the one that asked.
pub mod RecordCalls
-- A change of one record's queue, read at every record.
pub mod QueueMaps
-- A lock of no more than READ that goes: what it keeps of one record.
pub mod QueueReads
-- What each call keeps of the whole table.
pub mod WholeTable
-- A change of one transaction's list of records, read at every transaction and record.
pub mod RecordLists
-- A walk over the records of a transaction that changes each: what was done so far.
pub mod RecordWalks
-- Locks of a range type are those of transactions that asked for one: what each call keeps of it.
pub mod RangeLocks
-- What is noted of the transactions that may have a lock of READ: what each call keeps of it.
pub mod NotedReads
-- Single steps of the calls.
pub mod CallSteps
-- Locks of no more than READ that go, in the map of queues.
pub mod ReadLocks
-- The least owner of the records of one database, and those who were told to wait there.
pub mod DatabaseOwners
-- A database where no lock was asked for has no lock: what each call keeps of it.
pub mod UsedDatabases
-- Walks along a list: what was found so far, and what the rest gives.
pub mod ListWalks
-- The least owner in a database owns a lock on a record that the map finds.
pub mod HolderFound
