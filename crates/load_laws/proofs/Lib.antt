-- What a load attempts to commit.
mod LoadLaws
-- Locks that are all of one transaction stop none of its calls.
mod OwnLocks
-- Where a load stands: before its transaction, in it, and behind its last line.
mod Phases
-- What a load attempts to commit, event after event.
pub mod LoadImages
-- What a store has once changes of one database and its indexes were made.
mod PutStores
-- What refuses a call of a load is a refusal.
mod LoadRefusals
-- What the transaction of a load holds, put after put.
mod PutSteps
-- A store in which a database was made: what it finds, and the numbers of its databases.
mod MadeStores
-- What the commit of a load stores, and what stands behind its last line.
mod CommitStores
-- What a load stores from its transaction on.
mod InLoadStores
-- What a load stores, event after event.
pub mod LoadStores
