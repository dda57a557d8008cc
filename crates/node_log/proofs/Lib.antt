-- Slots of entries rise as slots of a node, and a put of the next slot is one more at the end.
pub mod RisingSlots
-- What is read of a node's entries is the node.
pub mod NodeReadBack
-- A node's entries keep the limits of their kinds.
pub mod EntryLimits
-- A node that is filled slot by slot.
pub mod NodeFromSlots
