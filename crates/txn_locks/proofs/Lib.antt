-- Two states of locks that are the same at each record and transaction.
pub mod States
-- A lock that was got and is given back.
pub mod Backs
-- What a request comes to.
pub mod Asking
-- One need after another.
pub mod NeedSteps
-- READ locks that were got and go.
pub mod ReadNeeds
