-- What opening reads in what a crash left of a log.
pub mod ImageReading
-- Which stores the images of a disk mean.
pub mod ImageStores
-- How many transactions the first entries of a log commit.
pub mod Commits
-- A log to which entries are appended: its LSNs.
pub mod RisingLsns
-- It misses no file, and recovers what its entries recover.
pub mod LongerLogs
-- A log that was found.
pub mod FoundLogs
-- The disk of a log buffer while its log grows.
pub mod Moments
