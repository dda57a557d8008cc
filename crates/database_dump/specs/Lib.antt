-- A database as a dump.
pub mod Text
