-- When a disk may say that it failed.
use Rattle.std.specs.Prelude.{◌≤◌, ℕ, Result, OnErr, IsErrOf}
use Rattle.je_disk.specs.declared.error.DiskErr.{DiskErr}
use Rattle.je_disk.specs.declared.error.DiskErr.TheVariants.{Failed, Memory}
use Rattle.je_order.specs.Counts.{HasRisen}

-- a call that may also run out of memory: the count of faults never falls, and the call says that the disk failed only where the count rose
pub record HasCause {T : Type 0} (before after : ℕ) (result : Result T DiskErr) : Type 0 where
  pub never_falls : before ≤ after
  pub failed : IsErrOf result Failed → HasRisen before after

-- a call that has no answer but success and a fault: the count never falls, each error is a fault, and
-- the count rose at it
pub record HasFault {T : Type 0} (before after : ℕ) (result : Result T DiskErr) : Type 0 where
  pub never_falls : before ≤ after
  pub failed : OnErr result (HasRisen before after)
  pub only : IsErrOf result Memory → ⊥
