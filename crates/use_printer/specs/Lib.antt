pub mod UseText
