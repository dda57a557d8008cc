-- The lines of entries, one entry after another.
mod EntryLines
-- A reading of the log for printing.
pub mod ReadingLaws
