-- Names of databases by their numbers.
pub mod Names
