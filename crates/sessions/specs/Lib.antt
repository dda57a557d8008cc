pub mod AtStanding
pub mod Taking
pub mod Waiting
pub mod Spares
pub mod Names
