-- Steps of reading and writing, joined.
pub mod SourceSinkSteps
