-- Checks that begin as readings, put together.
mod TreeChecks
-- What a check finds in each part behind the trees begins with what opening finds there.
mod PartChecks
-- Which index is the first without the pairs of its primary's records.
mod IndexPairs
-- Where no record is wrong all records are left.
mod RestLaws
-- A whole check begins as opening does.
mod WholeChecks
