-- Every change leaves a right store right.
pub mod StoreLaws
-- Stores without indexes.
pub mod NoIndex
-- What each name finds among records, and after a change of them.
pub mod Rows
-- An index has the pair of each record, also after what comes with a change.
pub mod IndexLaws
