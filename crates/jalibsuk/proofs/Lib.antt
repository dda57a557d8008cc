-- an environment answers calls on behind each event
mod Usables
-- a sync as its beginning and its end
mod SyncLaws
-- openings of cursors, and beginnings of walks
mod CursorLaws
-- a checkpoint as its parts
mod CheckpointLaws
