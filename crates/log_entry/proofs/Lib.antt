-- A field that is read is the field that was written, and what was written is read again, whatever follows it.
pub mod FieldLaws
-- A body that is read is the body that was written, and what was written is read again.
pub mod BodyLaws
-- An entry put at the end of a vector, a piece at a time.
pub mod WritingLaws
-- Texts put at the end of a vector, one behind another.
pub mod VectorAppends
-- How bytes are decoded, a step at a time.
pub mod DecodeSteps
-- The bodies whose last fields are read at once.
pub mod BodyParts
-- Lists that are read, looked through and written item by item.
pub mod ItemLaws
-- What is read at the front of bytes is what was written there, whatever follows it.
pub mod ReadingLaws
-- A file's valid prefix: what it is encoded as, and how an append makes it longer.
pub mod PrefixLaws
