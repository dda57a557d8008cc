-- A waiting call that is taken out.
pub mod Waits
-- Transactions with own changes, by their counts.
pub mod Owns
-- A wait that is forgotten.
pub mod Forgetting
-- Victims that end.
pub mod Ends
-- Victims that are told and marked, with copies of their cycles.
pub mod Tells
-- What victims give back.
pub mod Backs
-- A call that begins to wait: where it leaves the sessions.
pub mod Stops
-- How many victims there are, and how long their cycles.
pub mod Bounds
-- A call that was made to wait has stopped as the model says.
pub mod Waited
-- A call that takes its needs.
pub mod Takes
-- Who uses a database.
pub mod Users
-- The first transaction whose session has a cursor on a database.
mod CursorUsers
-- What two clauses on a `Result` say together.
mod Results
-- The databases of open cursors go by their names in a store that changed.
pub mod CursorStores
-- The name of a need's database.
pub mod Naming
