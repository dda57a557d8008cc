-- The places of cursors that are found, opened, closed and moved.
pub mod PlaceLaws
-- No two cursors of a session have one number.
mod NumberLaws
-- A cursor is moved: the walk along the cursors.
mod MoveSteps
-- What holds of each open cursor goes on to hold.
mod EachCursor
