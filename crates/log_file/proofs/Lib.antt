-- What holds of each element of a list.
pub mod ListLaws
-- A file's entries as they are encoded, and one entry more.
pub mod EncodedLaws
-- A scan that is under way, from entry to entry.
pub mod ScanSteps
-- What is found of a file that was encoded, and what the valid prefix of any file is encoded as.
pub mod FileScanLaws
-- The files of a disk as one list, and the files of a log.
pub mod FilesLaws
-- The entries of a log with their LSNs.
pub mod PlacedLaws
