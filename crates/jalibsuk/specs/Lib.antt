-- an environment that answers calls
pub mod Usable
-- what one event comes to
pub mod Stepped
-- a sync of all commits so far
pub mod Synced
-- what answers tell callers
pub mod Told
-- what is still to be done for a call that was answered
pub mod Stages
-- names by handles
pub mod Named
-- what the methods do
pub mod Methods
-- cursors, and scans
pub mod Cursors
pub mod Scans
-- one step of maintenance, and a checkpoint
pub mod Turned
pub mod Checkpointed
-- what a user sees, and how it is coded
pub mod Seen
pub mod Code
-- opening and closing
pub mod Opened
