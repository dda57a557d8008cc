-- Where data is cut into fields.
pub mod FieldLaws
-- Sorted pairs of records are those of an index.
pub mod PairLaws
