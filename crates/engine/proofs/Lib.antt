-- Counts that rose.
pub mod Counts
-- Over an observable disk.
pub mod ObservedLaws
-- What a call attempts to commit.
pub mod AttemptLaws
-- Where a call leaves the model that is to log changes.
pub mod CallFates
-- How a call ends, by what it comes to.
pub mod CallEnds
-- Answers without a commit and without a disk fault.
pub mod CalmAnswers
-- How many changes of trees log changes of the store, and how far a log and its trees reach with them.
pub mod ReachLaws
-- What planned changes leave of an environment's records.
pub mod PlannedRows
-- Which databases the catalog names then.
pub mod PlannedNumbers
-- What calls plan.
pub mod PlannedCalls
-- What committed changes leave of the records in trees, as they were planned.
pub mod CommittedRows
-- The entries that calls log: none is the end of a checkpoint.
pub mod CallEntries
-- A log that is longer by a transaction.
pub mod TransactionGrowth
-- Where an environment stands after a step, beside the model.
pub mod StepLaws
-- Where an environment stands after a sync, and after a fault of the disk.
pub mod SyncedStanding
-- How long the files of a log get.
pub mod LengthLaws
-- A run whose disk was safe so far, one event later.
pub mod SafeLaws
-- A guarded run goes on by one event.
pub mod GuardLaws
-- A guarded run goes on by a sync.
pub mod SyncLaws
-- A guarded run goes on by a call.
pub mod GuardedCalls
-- What a log gives while transactions are under way, and while none is.
pub mod TxnGives
-- The log of an environment beside the model goes on by a change of the catalog.
pub mod CatalogLogs
-- An index is made and filled: of which databases its changes are.
pub mod IndexLogs
-- A guarded run goes on by an event, whatever transactions are under way.
pub mod GuardedEvents
-- A guarded run goes on by a write of all that was appended.
pub mod WriteOutLaws
-- What logging planned changes needs, and what it comes to.
pub mod LogLaws
-- A call goes on as the model does.
pub mod CallLaws
-- A guarded run that was closed, and one that begins.
pub mod ClosedLaws
-- An engine as one value, from its parts.
pub mod WholeLaws
-- The numbers of databases, by name.
pub mod NumberLaws
-- The log of files that were read, once the rest of the last one is cut off.
pub mod FileLaws
-- Opening an environment: the files that were read, and the log that is gone on from.
pub mod OpeningLaws
-- The records of an environment that was recovered.
pub mod RecoveredLaws
-- An environment that was opened: where the model starts, and a guarded run that begins.
pub mod OpenedLaws
-- A disk that was left as it was.
pub mod UntouchedLaws
-- What a crash leaves of an environment while it is opened.
pub mod EntryLaws
-- Which sync is out, through each event.
pub mod Begun
