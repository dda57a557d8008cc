-- The end of a checkpoint may stand behind a log that the trees fit.
pub mod EndStands
-- The data of a name in a tree's cells.
pub mod Records
