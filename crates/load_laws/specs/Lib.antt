pub mod Loads
-- Answers behind which a load gives no further line.
pub mod Given
-- What a crash leaves of a load.
pub mod Images
-- What a load stores.
pub mod Stored
