-- The write buffer's pieces as the write buffer grows.
pub mod WriteBufferPieces
-- What the write buffer has for each file, as it grows.
pub mod WriteBuffers
-- A log with an entry more, and without a file.
pub mod LogChanges
-- The log of a buffer with an entry more in its write buffer.
pub mod LogAppend
-- The room for entries, and the write buffer's bytes by file, as the fields change.
pub mod WriteBufferRoom
-- The disk's files as the write buffer is written, one file after another.
pub mod FilesWritten
-- The log of a buffer that begins, whose write buffer was written, or that a file was taken from.
pub mod LogEnds
-- Where an entry goes.
pub mod LogPositions
-- Entries as they stand in the bytes, on the disk and in the write buffer.
pub mod EntryReads
-- An entry that is appended is the last one.
pub mod LastEntry
-- A buffer that keeps its write buffer keeps its log.
pub mod BufferLog
-- A buffer whose write buffer stays as it was.
pub mod UnchangedBuffer
-- Disks that were only read.
pub mod ReadOnlyDisk
-- When a log buffer has failed, for each way in which a call ends.
pub mod FaultCauses
-- A log in parts: the files before one, that one, and those behind it.
pub mod LogSplits
-- What a crash keeps of a log while the disk is written.
pub mod CrashWrites
-- What is found of a file where no entry matches by chance, and of one that was only cut short.
pub mod ChanceMatches
-- The files of a disk hold prefixes of the log, at each moment at which it is written.
pub mod Prefixes
-- Files stay while the disk is written, and what is kept through two calls is kept through both.
pub mod Staying
-- Entries that were written stay written.
pub mod WrittenLaws
-- What a crash keeps at each moment while a write buffer is written.
pub mod CrashWriteOut
-- What a crash keeps of a log that was written whole, and as a sync begins and ends.
pub mod CrashSync
-- What a crash keeps of a log is kept of one with an entry more.
pub mod CrashAppend
-- A log that grows by several entries, and a buffer that does.
pub mod GrowthLaws
-- What a crash keeps of a log that a file was taken from.
pub mod CrashRemove
-- What a crash keeps of a log is in each image.
pub mod CrashImages
-- What a disk passes while bytes are put behind a file's, and while a next file is begun.
pub mod AppendMoments
-- What a crash keeps of a log as it is opened.
pub mod CrashOpen
-- The faults of calls that have no answer but success and a fault, as they are handed on.
pub mod DiskFaults
-- Zeros are no entry, and behind whole entries they are a torn tail.
mod ZeroTails
-- Where entries go that are to be appended.
pub mod NextPlaces
