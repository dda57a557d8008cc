pub mod Nodes
pub mod Levels
pub mod Lows
pub mod Noted
pub mod Due
pub mod Marks
