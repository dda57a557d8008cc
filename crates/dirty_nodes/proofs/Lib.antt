-- the trees of all databases, one after another
pub mod Forests
-- the roots of trees, by their databases' numbers
pub mod RootsOf
-- trees whose nodes are noted, one after another
pub mod NotedTrees
-- the next node to be logged, of the trees of all databases
pub mod NextPlaces
