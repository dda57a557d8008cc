-- Numbers of databases.
pub mod NumberLaws
-- Searches among committed records, and walks over them.
pub mod ReadingLaws
-- What the views of committed records see.
pub mod ViewLaws
-- Indexes, as the catalog has them.
pub mod IndexViews
-- What the parts of a plan come to.
pub mod PlanParts
-- Changes of the records of one database, as a transaction logs them.
pub mod RecordLaws
-- Calls that make no index.
pub mod NoIndexes
-- The parts of a plan that makes an index.
pub mod FillParts
-- A plan of a call on the catalog is what the model says.
pub mod CatalogPlanLaws
-- The store after an index was filled.
pub mod FilledLaws
-- The rows that log an index and its pairs.
pub mod FilledRows
-- A plan that makes an index is what the model says.
pub mod IndexPlanLaws
-- The names of changes, and what they have once these are committed.
pub mod Committing
