pub mod Catalog
pub mod Planning
