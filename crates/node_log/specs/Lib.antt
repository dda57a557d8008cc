pub mod Slots
pub mod Images
pub mod Laws
