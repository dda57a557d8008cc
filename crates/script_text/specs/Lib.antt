pub mod Bytes
pub mod Cursors
pub mod Grammar
pub mod Indexes
pub mod Report
pub mod Words
