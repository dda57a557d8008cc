-- What transactions see, and that names have the changes of transactions.
pub mod Seen
-- What is seen is what the model says, and how names go on having changes.
pub mod Laws
-- What a plan knows of the databases that a call is on, and what a call comes to on them.
pub mod Targets
