-- own changes in a log and in trees
pub mod OwnLaws
-- what a longer log gives
pub mod Giving
-- what it recovers
pub mod Recovering
-- the same of log buffers
pub mod BufferLaws
-- own changes as changes of the store
pub mod CommittingLaws
-- own changes that stay
pub mod StayingLaws
-- how many records they leave
pub mod CountLaws
-- the log beside the model
pub mod AtStandingLaws
-- a log that gets the entries of a checkpoint
pub mod CheckpointLaws
-- where a redo may begin
pub mod RedoLsns
