pub mod Events
-- Where the steps of maintenance of a script stand in a journal.
pub mod Maintenance
pub mod Lines
-- Where a run ends its sessions.
pub mod Ends
pub mod UnderWay
pub mod Running
-- Where a run pauses.
pub mod Pauses
