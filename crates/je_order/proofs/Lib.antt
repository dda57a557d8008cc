-- What holds of each element of a list.
pub mod Lists
-- What a test of an ordering says, and names that compare as equal.
pub mod Orderings
-- Two numbers of one transaction.
pub mod TxnIds
-- What a result says that is an error, and one that is said in other words.
pub mod Results
-- What a step that did not fail gave.
pub mod Options
-- Bytes with zeros behind them.
pub mod PaddedLaws
-- Bytes that are compared as numbers.
pub mod SpelledLaws
-- Byte strings that are compared a part at a time.
pub mod Parts
