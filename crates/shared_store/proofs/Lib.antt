pub mod BegunLaws
pub mod RunLaws
