-- The lines of a gap, file by file.
mod GapLines
-- How many lines findings have, one by one.
mod CountLines
