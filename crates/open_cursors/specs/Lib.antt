-- A database by its name.
pub mod Under
-- The open cursors, as each session's list of places.
pub mod Places
