pub mod Looks
pub mod Rising
pub mod Reaches
