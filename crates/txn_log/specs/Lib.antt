pub mod Own
pub mod Gives
pub mod Leaves
pub mod Committing
pub mod Growth
pub mod Buffers
pub mod AtStanding
pub mod Checkpoints
