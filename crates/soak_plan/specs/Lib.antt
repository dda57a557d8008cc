pub mod Drawing
pub mod Rounds
