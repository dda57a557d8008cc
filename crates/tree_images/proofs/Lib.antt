-- Sound images: how they are read, and that they stay.
pub mod Images
-- Trees that fit a log fit a longer one.
pub mod Longer
-- The lows of a level.
pub mod Lows
-- The roots of trees that fit a log.
pub mod Roots
-- Cells whose data stands where they say: how they are set.
pub mod Recorded
-- The nodes of a level one after another, and the bounds of their names.
pub mod Neighbours
-- The image of a node that is logged is sound.
pub mod Logged
-- The nodes of trees that fit a log, step by step.
pub mod NodeSteps
-- The image of a node that was made before its children were logged.
pub mod Finished
-- The nodes of a tree in which nodes are split for a name's slot.
pub mod Grown
-- The splits for a name's slot, and the nodes of a tree in which they were made.
pub mod Splits
-- The nodes that are logged for a name's slot: each behind its children.
pub mod LogOrder
-- The nodes over a name, level by level.
pub mod Paths
-- The nodes that are logged for a name's slot stand behind their children, which wait no more.
pub mod PlaceOrder
-- The order in which nodes are logged for a name's slot.
pub mod Ordered
-- A tree where a name got its slot.
pub mod PlacedTrees
-- Images of nodes that were made together are logged, one after another.
pub mod DueImages
-- Trees whose nodes have earlier marks.
pub mod EarlierMarks
-- Trees that are made of the images that were read.
pub mod Read
-- Each name's newest committed change while the log grows.
pub mod Newest
-- The trees of all databases where one of them took the place of another one.
pub mod Forests
-- The LSNs of each name's changes while the log grows.
pub mod Latest
-- Beginnings of checkpoints in a log, and late LSNs, while the log grows.
pub mod LateMarks
-- What a checkpoint noted, while nodes of one tree change.
pub mod NotedNodes
-- What a checkpoint noted, where nodes are split, a tree is made, or a checkpoint begins.
pub mod NotedRoots
-- The trees of all databases while the log grows and one of them changes.
pub mod ForestSteps
-- One tree that fits its log, and its cells' changes, while a cell is set.
pub mod ForestWrites
-- The nodes of trees that were read: each image's node stands alone within its bounds.
pub mod ReadNodes
-- The images that trees were read from, in a log without deltas: entries of BINs and of INs, which are sound.
pub mod ReadImages
-- A tree whose nodes are those that the images below its root show fits the log.
pub mod ReadTrees
-- The records of a tree that was read: they stand where the images below its root show them.
pub mod ReadRecords
-- The trees that reading a checkpoint's roots gives fit the log that was read.
pub mod ReadForest
-- The change of a name with the greatest LSN.
pub mod LatestNewest
-- The end of a checkpoint that names the roots of trees that fit.
pub mod ForestEnds
-- A tree that fits its log, where a name got its slot: its images are due.
pub mod ForestPlaces
-- Trees where a change is redone.
pub mod RedoneTrees
-- Which BINs are dirty, where nodes are split for a name's slot, and where trees are new.
pub mod Exact
-- Which BINs are dirty, where a name got its slot and images are still to be logged.
pub mod PlacedExact
-- What is read of names: the slots of records that were deleted are those that the last images of their BINs have.
pub mod ReadSlots
