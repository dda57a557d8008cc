-- Edges, and the names on either side.
pub mod EdgeLaws
-- Records between edges: what the ends of a range are, and how it is walked.
pub mod Walks
-- The last record of a list.
pub mod ListLaws
-- Rising names between edges, and how they are walked.
pub mod NameWalks
-- A look for the record of one name passes that name.
mod PassedLaws
