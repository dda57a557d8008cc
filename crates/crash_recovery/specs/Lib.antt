pub mod Reading
pub mod Recovery
pub mod Laws
pub mod Appending
pub mod Growth
pub mod Opening
