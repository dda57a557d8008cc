-- The order of names.
pub mod Order
-- The node over a name.
pub mod Over
-- What the last images of BINs say of names.
pub mod Says
-- What images show is the same in a longer log.
pub mod Longer
-- A mark, a split and a commit keep that a tree fits its log.
pub mod Marking
-- An image of a node, and a new root, keep that a tree fits its log.
pub mod Logging
-- What the images of a tree lack is behind each redo LSN that no mark is below.
pub mod Covering
-- Images that are made of a node's content show it.
pub mod Contents
-- A node is over the names from its low on and below the low behind it.
pub mod Within
-- The image of an IN that is made of its children shows what their images show.
pub mod Children
-- Changes of a tree's records keep that it fits its log.
pub mod Records
-- Logging a node keeps that a tree fits its log.
pub mod NodeLogging
-- What transactions see of cells.
pub mod Seen
-- What reads find among the cells.
pub mod ReadCells
-- A split is a copy, and an IN's image has its children's slots.
pub mod SplitLaws
-- Lows that are put on levels.
pub mod Lows
-- Which nodes are split, by what is read of them.
pub mod SplitPlans
-- Trees whose nodes are split.
pub mod GrowLaws
-- A root that is marked is put above the top.
pub mod RootLaws
-- How long images are.
pub mod ImageSizes
-- The images of nodes.
pub mod ImageLaws
-- Which nodes are logged where nodes are split.
pub mod LoggedLaws
-- A node that was logged waits no more.
pub mod NoteLaws
-- Trees, as far as their splits depend on them.
pub mod ShapeLaws
-- A name gets a slot.
pub mod PlaceLaws
-- Images get the LSNs of children.
pub mod FinishLaws
-- Splits are taken back.
pub mod BackLaws
-- Which nodes of changed levels wait.
pub mod WaitLaws
-- Levels in which some nodes wait, or do not.
pub mod ForcedLaws
-- How many nodes wait.
pub mod WaitCounts
-- How many images and nodes a name's slot needs.
pub mod FewSplits
-- How calls end, and what is left of a list.
pub mod Ending
-- How the nodes of a tree change, as far as their images go.
pub mod NodeSteps
-- Nodes that are split without being logged wait to be logged.
pub mod WaitingNodes
-- Nodes that are put while a log is read again.
pub mod LoadingLaws
-- Nodes that are noted.
pub mod NotingLaws
-- Nodes that are not noted, and have no mark before an LSN.
pub mod SinceLaws
-- A BIN that has its last image's content needs no mark.
pub mod DirtyLaws
-- A commit keeps that cells know what the last images of their BINs say.
pub mod DirtyCommits
-- BINs are dirty exactly where they have not their last images' content.
pub mod DirtyExact
-- Changes of cells that leave which BINs have their last images' content.
pub mod DirtyCells
-- Which BINs are dirty, where nodes change.
pub mod NodesExact
-- A BIN has its last image's content exactly where this says what is committed.
pub mod DirtyContent
-- BINs that were read are not dirty.
pub mod ReadExact
-- BINs that have not their last images' content, as it is known without going over their cells.
pub mod AwayLaws
