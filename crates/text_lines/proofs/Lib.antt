-- The first place of a byte in a text.
pub mod FirstPlaces
-- The first place of a byte, as a search of many bytes at a time says it.
mod FirstBytes
-- A text cut at its first line feed.
mod LineCuts
