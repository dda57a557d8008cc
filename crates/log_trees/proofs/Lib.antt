-- What an image shows is the same in a longer log, since it names lower LSNs alone.
pub mod Staying
-- Names and bounds.
pub mod Bounds
-- The children of an IN within bounds, side by side.
pub mod Cut
-- The records below an image are those that it shows name by name.
pub mod Shown
-- What the roots of right trees give is what they show name by name.
pub mod Rooted
-- Trees are read alike in a longer log.
pub mod LongerLogs
-- Right trees are read with no corruption.
pub mod Reading
-- The names of slots that images show rise.
pub mod Names
-- Trees that are read with no corruption are right.
pub mod Right
-- Images that are logged: when they are right, and what they show.
pub mod Building
