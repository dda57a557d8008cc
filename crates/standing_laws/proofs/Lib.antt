-- Lists of which each item is so.
pub mod Each
-- What is among the items of a list.
pub mod Among
-- Who has changed a name alone.
pub mod Writers
-- Where no transaction is under way, nobody has anything.
pub mod AloneRight
-- Waiting calls that go on come to rest.
pub mod Settling
-- Victims of a wait that closes cycles.
pub mod Victims
-- Those whose waits are gone: the victims.
pub mod Gone
-- Owners that stay owners.
pub mod Owners
-- Whoever waits is a transaction under way.
pub mod Waiters
-- Each step of an event keeps what holds.
pub mod Steps
-- Transactions that begin, change something and end.
pub mod Moves
-- Marks of victims, and their ends.
pub mod Marks
-- A call that waits, and its victims.
pub mod Stays
-- Each event keeps what holds.
pub mod StandingsStay
-- Transactions of one call go on having changed nothing.
pub mod StandingsBare
-- Where a stop with victims leaves a standing.
pub mod Stopped
-- The database of a name, where databases are made, removed, renamed and changed.
pub mod NamedDatabases
-- A database on which a session has a cursor goes on under its name.
pub mod CursorDatabases
