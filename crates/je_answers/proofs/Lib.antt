-- One more event at a journal's end.
pub mod Journals
-- What a journal has committed, and where it leaves the store.
pub mod Commits
-- Where all locks are one transaction's, nothing that it needs is stopped, and its end leaves no lock.
pub mod Unlocked
-- Where no transaction is under way, a call of its own meets no lock and leaves none.
pub mod AloneLaws
-- What a call is on where the store has no index.
pub mod PlainTargets
-- Events that make no index leave a store without one.
pub mod WithoutIndexes
-- Where the own changes of all are the same, each transaction sees the same.
pub mod SameViews
