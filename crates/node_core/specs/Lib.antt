pub mod Sorted
pub mod Changes
pub mod Nodes
