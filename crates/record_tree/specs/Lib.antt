pub mod Occupied
pub mod Logged
pub mod Stored
pub mod LoadedNodes
pub mod LoadedSlots
pub mod Nodes
