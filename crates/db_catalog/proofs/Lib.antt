-- A catalog record that is read is the record that was written, and what was written is read again.
pub mod CatalogLaws
-- What a change that a call makes logs in the catalog.
pub mod PlanningLaws
