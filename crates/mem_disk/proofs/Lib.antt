-- How a call of the disk is counted, and how it fails.
mod CallCounts
-- What the disk's changes do to one file: its view is changed as the disk's state is.
mod CrashStateLaws
-- What one more change does to a record of changes, and to the files that it makes.
mod ChangeReplay
