pub mod Images
pub mod Live
pub mod Use
