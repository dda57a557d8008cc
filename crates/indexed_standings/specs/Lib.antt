-- Indexes where transactions are under way.
pub mod Indexed
