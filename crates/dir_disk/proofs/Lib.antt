-- The numbers of files in order.
mod FileNumbers
-- The cause of what a call of the disk answers.
mod FaultCauses
-- The bytes of a file that is read from its beginning.
mod WholeReads
