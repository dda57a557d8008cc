-- Printed bytes are read back.
mod PrintedBytes
-- The lines of a dump's text.
mod DumpLines
-- The text of a dump is read as its pairs.
mod BackLaws
