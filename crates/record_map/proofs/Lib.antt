-- What is held of names, and the order that it shows.
pub mod HeldLaws
-- What lies on either side of an edge.
pub mod EdgeLaws
-- The bounds of runs.
pub mod RunLaws
-- The order of names, and what a list has under a name.
pub mod NameLaws
