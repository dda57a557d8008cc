-- Lists from which nothing was taken.
pub mod Kept
