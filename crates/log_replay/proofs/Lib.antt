-- What the maps of std do to a database's records, as the definitions on lists say it.
pub mod MapRows
-- What holds of each element of a list, and what tests find.
pub mod ListLaws
-- The records of one database: names and their order, what a name finds, and what a change leaves.
pub mod RowLaws
-- The store that records make, and what a logged change leaves of it.
pub mod StoreLaws
-- How many records and databases a logged change leaves.
pub mod TotalLaws
-- No record is wrong exactly where the records are those of an environment.
pub mod WrongLaws
-- What a log means, and what one more transaction in it leaves.
pub mod LogLaws
-- A replay that is under way, from entry to entry.
pub mod ReplayLaws
-- What a name finds in records after a change.
pub mod NameLaws
-- Which catalog record has a number after a change of the catalog.
pub mod IndexRows
-- What a transaction's changes of records leave: the records of an environment, their store and the databases' numbers.
pub mod LoggedLaws
-- What one more transaction in a log leaves.
pub mod TransactionLaws
-- How many records and databases a change of the store leaves.
pub mod CountLaws
-- A list that a loop makes of another one, item by item.
pub mod ListMapping
-- Moments that pass while a disk's state stays the same.
pub mod UnchangedMoments
-- Numbers between rising numbers of files.
pub mod GapLaws
-- What the files of a log hold, and what is wrong with them.
pub mod FilesLaws
-- The files of a listing, with the bytes that a disk reads.
pub mod ListedLaws
-- A log whose files are there whole is read again.
pub mod AgainLaws
-- Records that go in many at a time.
pub mod LoadedRows
-- No index is wrong exactly where each has the pairs of its primary's records.
pub mod IndexedLaws
-- What plans read of the records of an environment.
pub mod PlanViews
