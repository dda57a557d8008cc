-- How the trees of all databases change where that of one does.
pub mod Forests
-- How many nodes wait where the tree of one database changes.
pub mod Waits
-- Trees that are made for the databases of changes, and taken out again.
pub mod Preparation
-- Names of changes get their slots, change by change.
pub mod Placings
-- Changes are written one after the other.
pub mod Written
-- The sizes of entries that are to come.
pub mod Sizes
-- Changes of several names, one after the other.
pub mod Names
-- What is taken before changes are written, and what holds when they were.
pub mod Checked
-- What is committed in trees while a log is read again, and how it changes where one cell does.
pub mod StoredLaws
-- Where the log has no room it ends far behind.
pub mod Far
-- A log that got one entry: the entry's LSN is behind all others, and not before this life of the environment.
pub mod Appending
-- Images that are due are logged, and changes behind them: the trees fit the longer log.
pub mod DueLogging
-- Names of changes got their slots, change by change: the trees fit their log but for the images of these slots.
pub mod DuePlaces
-- Changes that are ready to be logged: the trees fit their log but for the images of their names' slots.
pub mod DueReady
-- What calls on the trees of an environment do to trees that fit their log.
pub mod TreesGrown
-- Trees that are made of a log: their nodes, and what they fit.
pub mod LoadedLaws
-- A checkpoint notes nodes of the trees.
pub mod NotedTrees
-- What a checkpoint logs of the trees.
pub mod Checkpoints
-- Shapes of trees whose cells have nothing committed: what a slot takes depends on their names alone.
pub mod FillShapes
-- A tree that fits each log which gets entries that are worked out before: an image more, a change more, and a slot.
pub mod FillAhead
-- A new database's tree is filled: images and changes take their places one after the other.
pub mod FillRows
-- A new database that is filled: the limit that its changes meet.
pub mod FillReady
-- Entries that were worked out before are logged, one after the other.
pub mod FillLogged
-- A new database is made and filled: its tree takes its place once all is logged, and the trees fit the longer log.
pub mod FillGrown
-- The marks that are left where no noted node is dirty.
pub mod MarksLeft
-- Nodes that are split for a name's slot leave BINs dirty exactly where they have not their last images' content.
pub mod SplitExact
-- The records of cells are the occupied names with committed data.
pub mod RecordCounts
