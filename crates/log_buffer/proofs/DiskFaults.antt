-- The faults of calls that have no answer but success and a fault, as they are handed on.
use Rattle.std.proofs.Common.{◌≡◌, ◌≤◌, ℕ, le_trans, subst, sym}
use Rattle.std.specs.Prelude.{Result, Ok, Err, IsErrAnd}
use Rattle.je_disk.specs.Causes.{HasFault}
use Rattle.je_disk.specs.declared.error.DiskErr.{DiskErr}
use Rattle.log_buffer.proofs.FaultCauses.{err_is, rose_then}

module _ {T : Type 0} where
  pub fault_none : (before after : ℕ) (v : T) → before ≤ after → HasFault before after (Ok v)
  fault_none before after v low = record { never_falls = low; failed = tt; only = λ is. absurd cc }

  -- behind another call
  pub fault_then : (before mid after : ℕ) (r : Result T DiskErr) → before ≤ mid → HasFault mid after r → HasFault before after r
  fault_then before mid after r low fault = record {
    never_falls = le_trans low fault.never_falls;
    failed = rose_then r before mid after low fault.never_falls fault.failed;
    only = fault.only;
  }

  -- of an error that is handed on
  pub fault_again : (before after : ℕ) (r : Result T DiskErr) (e : DiskErr) → IsErrAnd r (λ x. x ≡ e) → HasFault {T = T} before after (Err e) → HasFault before after r
  fault_again before after r e is fault = subst (λ (x : Result T DiskErr). HasFault before after x) (sym (err_is r e is)) fault
