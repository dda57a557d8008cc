use Rattle.std.proofs.Common.{ℕ, refl, ap, sym, ◌∙◌}
use Rattle.je_disk.specs.declared.jobs.Jobs.{Jobs}
use Rattle.je_disk.specs.States.{State, content}
use Rattle.je_lsn.specs.declared.file_no.FileNo.{FileNo}
use Rattle.je_disk.specs.Moments.{now}
use Rattle.je_disk.proofs.MomentLaws.{passes_none}
use Rattle.mem_disk.specs.Replay.{history_of}
use Rattle.mem_disk.proofs.CallCounts.{no_memory, memory_not_due, call_failed_so, says_failed, no_fault_so, is_due, not_due}
use Rattle.je_order.proofs.Results.{no_value}
use Rattle.mem_disk.proofs.ChangeReplay.{now-history_of}
use Rattle.mem_disk.proofs.memory.MemDiskDisk.end_read.Goals as goal

pub returns-in_err-call : goal.returns-in_err-call
returns-in_err-call c = record {
  bytes = no_value _ _ c.from_residual.ensures.0;
  same = refl;
  moments = passes_none _ _;
  none_out = ap (λ (j : Jobs). j.reading) c.give_up_reading.ensures;
  sync_out = ap (λ (j : Jobs). j.sync) c.give_up_reading.ensures;
  last_job = ap (λ (j : Jobs). j.last_job) c.give_up_reading.ensures;
  cause = call_failed_so _ _ c.in_err-call.field-0.0 _ c.in_err-call.ensures.cause;
  due = (λ _. is_due _ _ _ _ c.in_err-call.ensures.made (c.in_err-call.ensures.due.0 refl), λ _. says_failed _ _ c.in_err-call.field-0.0 _ c.from_residual.ensures.0 c.from_residual.ensures.1 c.in_err-call.ensures.cause);
  counted = record { calls = c.call.ensures.made; fails = ap (λ v. v.items) c.call.ensures.fails; stop = c.call.ensures.stop };
}

pub returns-in_err-bytes : goal.returns-in_err-bytes
returns-in_err-bytes c = record {
  bytes = no_value _ _ c.from_residual-in_err-bytes.ensures.0;
  same = refl;
  moments = passes_none _ _;
  none_out = ap (λ (j : Jobs). j.reading) c.give_up_reading.ensures;
  sync_out = ap (λ (j : Jobs). j.sync) c.give_up_reading.ensures;
  last_job = ap (λ (j : Jobs). j.last_job) c.give_up_reading.ensures;
  cause = no_memory _ _ _ c.from_residual-in_err-bytes.ensures.0 c.from_residual-in_err-bytes.ensures.1 c.in_ok-call.ensures.steady;
  due = memory_not_due _ _ _ _ _ c.from_residual-in_err-bytes.ensures.0 c.from_residual-in_err-bytes.ensures.1 c.in_ok-call.ensures.made c.in_ok-call.ensures.due;
  counted = record { calls = c.call.ensures.made; fails = ap (λ v. v.items) c.call.ensures.fails; stop = c.call.ensures.stop };
}

pub returns : goal.returns
returns c = record {
  bytes = c.in_ok-bytes.ensures ∙ ap (λ (s : State). content s.reads c.file.result.0) (sym (now-history_of c.args.self.now.file_map.changes.items)) ∙ ap (λ (f : ℕ). content (now (history_of c.args.self.now.file_map.changes.items)).reads f) (ap (λ (f : FileNo). f.0) c.file.ensures ∙ ap (λ (j : Jobs). j.file.0) c.give_up_reading.ensures);
  same = refl;
  moments = passes_none _ _;
  none_out = ap (λ (j : Jobs). j.reading) c.give_up_reading.ensures;
  sync_out = ap (λ (j : Jobs). j.sync) c.give_up_reading.ensures;
  last_job = ap (λ (j : Jobs). j.last_job) c.give_up_reading.ensures;
  cause = no_fault_so _ _ _ c.in_ok-call.ensures.steady;
  due = not_due _ _ _ _ _ c.in_ok-call.ensures.made c.in_ok-call.ensures.due;
  counted = record { calls = c.call.ensures.made; fails = ap (λ v. v.items) c.call.ensures.fails; stop = c.call.ensures.stop };
}
