use Rattle.std.proofs.Common.{inl, refl, ap, sym, ◌∙◌, ◌+◌, Some}
use Rattle.je_disk.specs.declared.jobs.Jobs.{Jobs}
use Rattle.je_disk.proofs.MomentLaws.{passes_none}
use Rattle.mem_disk.proofs.CallCounts.{call_failed, no_fault, late_fault, is_due}
use Rattle.je_order.proofs.Results.{no_value, no_ok, at_error}
use Rattle.mem_disk.proofs.memory.MemDiskDisk.read_job.Goals as goal

pub returns-in_err-call : goal.returns-in_err-call
returns-in_err-call c = record {
  same = refl;
  moments = passes_none _ _;
  number = no_value _ _ c.from_residual.ensures.0;
  begun = no_value _ _ c.from_residual.ensures.0;
  read_of = no_ok _ _ c.from_residual.ensures.0;
  none_out = at_error _ (ap (λ (j : Jobs). j.reading) c.give_up_reading.ensures);
  sync_out = ap (λ (j : Jobs). j.sync) c.give_up_reading.ensures;
  last_job = no_value _ _ c.from_residual.ensures.0;
  no_new_job = at_error _ (ap (λ (j : Jobs). j.last_job) c.give_up_reading.ensures);
  cause = call_failed _ _ c.in_err-call.field-0.0 _ c.from_residual.ensures.0 c.from_residual.ensures.1 c.in_err-call.ensures.cause;
  due = (λ _. inl (is_due _ _ _ _ c.in_err-call.ensures.made (c.in_err-call.ensures.due.0 refl)), λ _. c.from_residual.ensures.0);
  counted = record { calls = c.call.ensures.made; fails = ap (λ v. v.items) c.call.ensures.fails; stop = c.call.ensures.stop };
}

pub returns-in_default-clause-same : goal.returns-in_default-clause-same
returns-in_default-clause-same c = refl

pub returns-in_default-clause-moments : goal.returns-in_default-clause-moments
returns-in_default-clause-moments c = passes_none _ _

pub returns-in_default-clause-number : goal.returns-in_default-clause-number
returns-in_default-clause-number c = tt

pub returns-in_default-clause-begun : goal.returns-in_default-clause-begun
returns-in_default-clause-begun c = tt

pub returns-in_default-clause-read_of : goal.returns-in_default-clause-read_of
returns-in_default-clause-read_of c = tt

pub returns-in_default-clause-none_out : goal.returns-in_default-clause-none_out
returns-in_default-clause-none_out c = ap (λ (j : Jobs). j.reading) c.give_up_reading.ensures

pub returns-in_default-clause-sync_out : goal.returns-in_default-clause-sync_out
returns-in_default-clause-sync_out c = ap (λ (j : Jobs). j.sync) c.give_up_reading.ensures

pub returns-in_default-clause-last_job : goal.returns-in_default-clause-last_job
returns-in_default-clause-last_job c = tt

pub returns-in_default-clause-no_new_job : goal.returns-in_default-clause-no_new_job
returns-in_default-clause-no_new_job c = ap (λ (j : Jobs). j.last_job) c.give_up_reading.ensures

pub returns-in_default-clause-cause : goal.returns-in_default-clause-cause
returns-in_default-clause-cause c = late_fault _ _ _ _ c.in_ok-call.ensures.steady c.fault.ensures.failed c.fault.ensures.rose c.fault.ensures.never_falls

pub returns-in_default-clause-counted : goal.returns-in_default-clause-counted
returns-in_default-clause-counted c = record { calls = c.fault.ensures.made ∙ c.call.ensures.made; fails = ap (λ v. v.items) (c.fault.ensures.fails ∙ c.call.ensures.fails); stop = c.fault.ensures.stop ∙ c.call.ensures.stop }

pub returns-clause-same : goal.returns-clause-same
returns-clause-same c = refl

pub returns-clause-moments : goal.returns-clause-moments
returns-clause-moments c = passes_none _ _

pub returns-clause-number : goal.returns-clause-number
returns-clause-number c = c.new.ensures ∙ c.in-Some.ensures.some ∙ ap (λ (j : Jobs). j.last_job + 1) c.give_up_reading.ensures

pub returns-clause-begun : goal.returns-clause-begun
returns-clause-begun c = ap (λ (j : Jobs). j.reading) c.begin_reading.ensures ∙ ap (λ n. Some n) (sym c.new.ensures)

pub returns-clause-read_of : goal.returns-clause-read_of
returns-clause-read_of c = ap (λ (j : Jobs). j.file.0) c.begin_reading.ensures

pub returns-clause-none_out : goal.returns-clause-none_out
returns-clause-none_out c = tt

pub returns-clause-sync_out : goal.returns-clause-sync_out
returns-clause-sync_out c = ap (λ (j : Jobs). j.sync) c.begin_reading.ensures ∙ ap (λ (j : Jobs). j.sync) c.give_up_reading.ensures

pub returns-clause-last_job : goal.returns-clause-last_job
returns-clause-last_job c = ap (λ (j : Jobs). j.last_job) c.begin_reading.ensures ∙ sym c.new.ensures

pub returns-clause-no_new_job : goal.returns-clause-no_new_job
returns-clause-no_new_job c = tt

pub returns-clause-cause : goal.returns-clause-cause
returns-clause-cause c = no_fault _ _ _ c.in_ok-call.ensures.steady

pub returns-clause-counted : goal.returns-clause-counted
returns-clause-counted c = record { calls = c.call.ensures.made; fails = ap (λ v. v.items) c.call.ensures.fails; stop = c.call.ensures.stop }
