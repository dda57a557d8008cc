-- Pairs in a sorted set: a look-up is `is_edge`, and the pairs of one waiter are a filter.
pub mod EdgeSets
-- What is in a list of pairs: joined lists, a reversed one, a filter by the waiter.
pub mod EdgeLists
-- Which list comes first.
pub mod ListOrder
-- Paths of the search, and the cycles that go on from them.
pub mod SearchPaths
-- How the search ends: with the first cycle along its path, or with no edge left and so no cycle.
pub mod SearchEnds
-- What one step of the search keeps.
pub mod SearchSteps
