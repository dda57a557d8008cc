use Rattle.std.proofs.Common.{refl, ap, sym, subst}
use Rattle.je_disk.specs.States.{State, IsListing}
use Rattle.je_disk.proofs.MomentLaws.{passes_none}
use Rattle.mem_disk.proofs.CallCounts.{no_memory, memory_not_due, call_failed_so, says_failed, no_fault_so, is_due, not_due}
use Rattle.je_order.proofs.Results.{no_value}
use Rattle.mem_disk.proofs.ChangeReplay.{now-history_of}
use Rattle.mem_disk.proofs.memory.MemDiskDisk.list.Goals as goal

pub returns-in_err-call : goal.returns-in_err-call
returns-in_err-call c = record {
  rising = no_value _ _ c.from_residual.ensures.0;
  listed = no_value _ _ c.from_residual.ensures.0;
  same = refl;
  moments = passes_none _ _;
  sync_out = refl;
  read_out = refl;
  read_of = refl;
  last_job = refl;
  cause = call_failed_so _ _ c.in_err-call.field-0.0 _ c.in_err-call.ensures.cause;
  due = (λ _. is_due _ _ _ _ c.in_err-call.ensures.made (c.in_err-call.ensures.due.0 refl), λ _. says_failed _ _ c.in_err-call.field-0.0 _ c.from_residual.ensures.0 c.from_residual.ensures.1 c.in_err-call.ensures.cause);
  counted = record { calls = c.call.ensures.made; fails = ap (λ v. v.items) c.call.ensures.fails; stop = c.call.ensures.stop };
}

pub returns-in_err-numbers : goal.returns-in_err-numbers
returns-in_err-numbers c = record {
  rising = no_value _ _ c.from_residual-in_err-numbers.ensures.0;
  listed = no_value _ _ c.from_residual-in_err-numbers.ensures.0;
  same = refl;
  moments = passes_none _ _;
  sync_out = refl;
  read_out = refl;
  read_of = refl;
  last_job = refl;
  cause = no_memory _ _ _ c.from_residual-in_err-numbers.ensures.0 c.from_residual-in_err-numbers.ensures.1 c.in_ok-call.ensures.steady;
  due = memory_not_due _ _ _ _ _ c.from_residual-in_err-numbers.ensures.0 c.from_residual-in_err-numbers.ensures.1 c.in_ok-call.ensures.made c.in_ok-call.ensures.due;
  counted = record { calls = c.call.ensures.made; fails = ap (λ v. v.items) c.call.ensures.fails; stop = c.call.ensures.stop };
}

pub returns : goal.returns
returns c = record {
  rising = c.in_ok-numbers.ensures.rising;
  listed = subst (λ (s : State). IsListing s.reads c.in_ok-numbers.field-0.items) (sym (now-history_of c.args.self.now.file_map.changes.items)) c.in_ok-numbers.ensures.listed;
  same = refl;
  moments = passes_none _ _;
  sync_out = refl;
  read_out = refl;
  read_of = refl;
  last_job = refl;
  cause = no_fault_so _ _ _ c.in_ok-call.ensures.steady;
  due = not_due _ _ _ _ _ c.in_ok-call.ensures.made c.in_ok-call.ensures.due;
  counted = record { calls = c.call.ensures.made; fails = ap (λ v. v.items) c.call.ensures.fails; stop = c.call.ensures.stop };
}
