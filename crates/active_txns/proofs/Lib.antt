-- The counts of what transactions changed, after a change of their map.
pub mod OwnMaps
-- A victim is marked: the walk along the transactions.
pub mod MarkSteps
