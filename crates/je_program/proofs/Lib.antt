-- The end of a run.
pub mod FinishLaws
-- A journal in which no answer ends the run otherwise than well.
mod JournalEnds
-- Reading a script.
pub mod ReadingLaws
-- Writing one text after another.
pub mod OutputLaws
-- How a program ends that has its input.
pub mod EndLaws
-- A disk that was left as it was.
pub mod UntouchedLaws
-- Where a run begins.
pub mod BeginLaws
-- How a program ends whose environment was not opened.
pub mod StopLaws
-- The transactions of a run replay, and none of them wait in a cycle.
pub mod ReplayLaws
-- What a program came to, command by command.
pub mod CommandLaws
-- The lines of a soak are lines of a script.
pub mod SoakLaws
-- Printing a log.
pub mod PrintLaws
-- What a program is to do.
pub mod RequestLaws
-- What a dump comes to.
pub mod DumpLaws
-- A command that opens the environment and gives it no line.
pub mod RestingLaws
-- A run without an event whose disk stands still behind it.
pub mod StillLaws
-- What a count of the log's use comes to.
pub mod StatLaws
-- What a check of the files comes to.
pub mod VerifyLaws
-- The place of a dump's pairs.
pub mod PlaceLaws
-- What a load comes to.
pub mod LoadLaws
