pub mod LogLines
pub mod Reading
