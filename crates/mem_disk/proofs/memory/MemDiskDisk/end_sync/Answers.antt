use Rattle.std.proofs.Common.{inr, refl, ap, ◌∙◌}
use Rattle.je_disk.specs.declared.jobs.Jobs.{Jobs}
use Rattle.je_disk.proofs.MomentLaws.{passes_none}
use Rattle.mem_disk.specs.declared.change.Change.TheVariants.{EndSync}
use Rattle.mem_disk.specs.Replay.{history_of}
use Rattle.mem_disk.proofs.CallCounts.{call_failed, no_fault, late_fault, due_at, passes_same}
use Rattle.je_order.proofs.Results.{no_ok, at_error}
use Rattle.mem_disk.proofs.ChangeReplay.{pushed_now, pushed_passes}
use Rattle.mem_disk.proofs.memory.MemDiskDisk.end_sync.Goals as goal

pub returns-in_err-call : goal.returns-in_err-call
returns-in_err-call c = record {
  done = no_ok _ _ c.from_residual.ensures.0;
  moments = passes_none _ _;
  none_out = ap (λ (j : Jobs). j.sync) c.give_up_sync.ensures;
  read_out = ap (λ (j : Jobs). j.reading) c.give_up_sync.ensures;
  read_of = ap (λ (j : Jobs). j.file.0) c.give_up_sync.ensures;
  last_job = ap (λ (j : Jobs). j.last_job) c.give_up_sync.ensures;
  cause = call_failed _ _ c.in_err-call.field-0.0 _ c.from_residual.ensures.0 c.from_residual.ensures.1 c.in_err-call.ensures.cause;
  unchanged = at_error _ refl;
  due = λ _. c.from_residual.ensures.0;
  counted = record { calls = c.call.ensures.made; fails = ap (λ v. v.items) c.call.ensures.fails; stop = c.call.ensures.stop };
}

pub returns-in-Ok : goal.returns-in-Ok
returns-in-Ok c = record {
  done = pushed_now _ _ EndSync c.in-Ok.ensures.ok;
  moments = pushed_passes _ _ EndSync _ c.in-Ok.ensures.ok (inr refl);
  none_out = ap (λ (j : Jobs). j.sync) c.give_up_sync.ensures;
  read_out = ap (λ (j : Jobs). j.reading) c.give_up_sync.ensures;
  read_of = ap (λ (j : Jobs). j.file.0) c.give_up_sync.ensures;
  last_job = ap (λ (j : Jobs). j.last_job) c.give_up_sync.ensures;
  cause = no_fault _ _ _ c.in_ok-call.ensures.steady;
  unchanged = tt;
  due = (due_at _ _ _ _ _ c.in_ok-call.ensures.made c.in_ok-call.ensures.due).1;
  counted = record { calls = c.call.ensures.made; fails = ap (λ v. v.items) c.call.ensures.fails; stop = c.call.ensures.stop };
}

pub returns-in-Err : goal.returns-in-Err
returns-in-Err c = record {
  done = tt;
  moments = passes_same _ _ _ c.in-Err.ensures.err;
  none_out = ap (λ (j : Jobs). j.sync) c.give_up_sync.ensures;
  read_out = ap (λ (j : Jobs). j.reading) c.give_up_sync.ensures;
  read_of = ap (λ (j : Jobs). j.file.0) c.give_up_sync.ensures;
  last_job = ap (λ (j : Jobs). j.last_job) c.give_up_sync.ensures;
  cause = late_fault _ _ _ _ c.in_ok-call.ensures.steady c.fault.ensures.failed c.fault.ensures.rose c.fault.ensures.never_falls;
  unchanged = ap history_of c.in-Err.ensures.err;
  due = λ _. refl;
  counted = record { calls = c.fault.ensures.made ∙ c.call.ensures.made; fails = ap (λ v. v.items) (c.fault.ensures.fails ∙ c.call.ensures.fails); stop = c.fault.ensures.stop ∙ c.call.ensures.stop };
}
