-- Indexes in a list by rising number.
pub mod SortedLaws
-- A map with an index more, or less.
pub mod Changes
-- They are those of the store, by its databases' numbers.
pub mod Found
