-- A reading of files that is under way.
pub mod FilesRead
-- Changes that wait for their commits.
pub mod WaitingLaws
-- Records while a log is read again.
pub mod RedoingLaws
-- What trees fit while a log is read again.
pub mod FitLaws
-- The greatest numbers in the entries of a log.
pub mod NumberLaws
-- Records without their LSNs, and which of them is wrong.
pub mod CheckLaws
-- Which index is the first without the pairs of its primary's records.
pub mod IndexChecks
-- The trees of the databases that the catalog names.
pub mod FinishLaws
-- Records in trees are those of a redo.
pub mod MeaningLaws
-- What reading the files of an environment answers.
pub mod AnswerLaws
-- Entries by their LSNs.
pub mod LookupLaws
-- Where the entries of a file stand in its bytes.
pub mod EntryPlaces
-- Entries of files by their LSNs.
pub mod FileLookups
-- What is noted of entries while they are read.
pub mod NoteLaws
-- Files that are missing from one on.
pub mod FileGaps
-- Nodes that are put while trees are read.
pub mod PutLaws
-- Reading trees.
pub mod WalkLaws
-- Reading the tree below an image.
pub mod NodeWalks
-- Trees that were read from a checkpoint's roots, and a redo over them.
pub mod ReadAgain
-- Reading the trees of a checkpoint's roots.
pub mod RootWalks
-- How many entries stand at an LSN or behind it.
pub mod CountLaws
-- Checks of trees.
pub mod TreeCheckLaws
-- Gaps in files that are noted.
pub mod GapNotes
-- Records that break a rule, each noted.
pub mod RecordNotes
-- What is left of the records in trees.
pub mod RestCounts
-- What a check of a log's entries comes to.
pub mod EntryCheckLaws
-- What a check of a log's files answers.
pub mod CheckAnswers
-- The images that trees reach.
pub mod ImageLaws
-- How much of a log is live, by the trees that were read from it.
pub mod UseLaws
