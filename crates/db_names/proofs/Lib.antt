-- Names with one more, or one less.
pub mod Changes
