-- The order of names, and tests that are joined.
pub mod NameOrder
-- What is found by names among slots in the order of their names, and what each change leaves.
pub mod SlotLookup
-- The place of a name among slots in the order of their names, and an edit there.
pub mod SlotPositions
-- A node's last full image, with what was changed since put in, is the image that it has now.
pub mod NodeImages
