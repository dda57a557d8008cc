-- Where no event is answered by a disk fault, a valid environment stays valid.
pub mod FaultLaws
-- One event more at a journal's end.
pub mod Pushed
-- What each kind of event leaves awaited.
pub mod Waiting
-- Which sessions have a transaction, event after event.
pub mod SessionLaws
-- Where a run stands: what only its journal says, and what ends and syncs leave waiting.
pub mod Standings
-- Which lines a journal has, line after line.
pub mod GivenLaws
-- Where a journal ends sessions, event after event.
pub mod EndLaws
-- What may go on, and how waiting calls come to rest.
pub mod Resting
-- A run goes on by one event.
pub mod RunLaws
-- What a run's ends of sessions leave: its journal, its flags, and who has a transaction.
pub mod Ending
-- Steps of maintenance, and the syncs that they ask for.
pub mod Steps
-- How a journal grows, and that behind a refused call it grows by no line.
pub mod Growing
-- A load is a run of its lines that pauses at a refusal.
pub mod LoadRuns
-- What a loop over a vector's elements was given.
pub mod Yielded
