pub mod Causes
pub mod DiskMeaning
pub mod Images
pub mod Moments
pub mod States
