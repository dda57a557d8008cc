-- Lows and the places of their nodes.
pub mod Places
-- The levels keep their form where one of them changes.
pub mod LevelLaws
-- The lows of a level, by the nodes that have them.
pub mod LowLaws
-- Lists whose names rise.
pub mod RisingLists
-- Nodes that are noted.
pub mod NoteLaws
-- Nodes that are noted and dirty.
pub mod DueLaws
-- The least of numbers by their places.
pub mod LeastNumbers
-- The places of due nodes.
pub mod DuePlaces
-- From which LSN on images of nodes lack something.
pub mod MarkLaws
