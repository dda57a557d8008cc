pub mod Adler
pub mod Reading
