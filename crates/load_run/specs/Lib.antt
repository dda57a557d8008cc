-- A dump as the lines of a script that load it.
pub mod Lines
