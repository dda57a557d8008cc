pub mod Scan
pub mod Log
pub mod Placed
pub mod Laws
pub mod Scanning
pub mod Reading
