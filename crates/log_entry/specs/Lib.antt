pub mod Fields
pub mod Items
pub mod Body
pub mod Parts
pub mod Encoding
pub mod Writing
pub mod Reading
pub mod Prefix
