-- Cycles of a relation, and of one that it grows from.
pub mod CycleLaws
-- Who waits for whom, and what each call of the lock table adds to it.
pub mod WaitsForLaws
-- What each call of the lock table keeps of the freedom from deadlock.
pub mod NoDeadlockLaws
-- The search that fills the edges.
pub mod EdgeSearch
-- The greatest of a list.
pub mod GreatestTxn
-- The waits settle the victims.
pub mod OneChoice
