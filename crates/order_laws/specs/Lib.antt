pub mod Equality
