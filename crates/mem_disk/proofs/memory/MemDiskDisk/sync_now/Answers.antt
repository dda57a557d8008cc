use Rattle.std.proofs.Common.{inr, refl, ap, ◌∙◌}
use Rattle.je_disk.proofs.MomentLaws.{passes_none}
use Rattle.mem_disk.specs.declared.change.Change.TheVariants.{Sync}
use Rattle.mem_disk.specs.Replay.{history_of}
use Rattle.mem_disk.proofs.CallCounts.{call_failed, no_fault, late_fault, due_at, passes_same}
use Rattle.je_order.proofs.Results.{no_ok, at_error}
use Rattle.mem_disk.proofs.ChangeReplay.{pushed_now, pushed_passes}
use Rattle.mem_disk.proofs.memory.MemDiskDisk.sync_now.Goals as goal

pub returns-in_err-call : goal.returns-in_err-call
returns-in_err-call c = record {
  done = no_ok _ _ c.from_residual.ensures.0;
  moments = passes_none _ _;
  sync_out = refl;
  read_out = refl;
  read_of = refl;
  last_job = refl;
  cause = call_failed _ _ c.in_err-call.field-0.0 _ c.from_residual.ensures.0 c.from_residual.ensures.1 c.in_err-call.ensures.cause;
  unchanged = at_error _ refl;
  due = λ _. c.from_residual.ensures.0;
  counted = record { calls = c.call.ensures.made; fails = ap (λ v. v.items) c.call.ensures.fails; stop = c.call.ensures.stop };
}

pub returns-in-Ok : goal.returns-in-Ok
returns-in-Ok c = record {
  done = pushed_now _ _ Sync c.in-Ok.ensures.ok;
  moments = pushed_passes _ _ Sync _ c.in-Ok.ensures.ok (inr refl);
  sync_out = refl;
  read_out = refl;
  read_of = refl;
  last_job = refl;
  cause = no_fault _ _ _ c.in_ok-call.ensures.steady;
  unchanged = tt;
  due = (due_at _ _ _ _ _ c.in_ok-call.ensures.made c.in_ok-call.ensures.due).1;
  counted = record { calls = c.call.ensures.made; fails = ap (λ v. v.items) c.call.ensures.fails; stop = c.call.ensures.stop };
}

pub returns-in-Err : goal.returns-in-Err
returns-in-Err c = record {
  done = tt;
  moments = passes_same _ _ _ c.in-Err.ensures.err;
  sync_out = refl;
  read_out = refl;
  read_of = refl;
  last_job = refl;
  cause = late_fault _ _ _ _ c.in_ok-call.ensures.steady c.fault.ensures.failed c.fault.ensures.rose c.fault.ensures.never_falls;
  unchanged = ap history_of c.in-Err.ensures.err;
  due = λ _. refl;
  counted = record { calls = c.fault.ensures.made ∙ c.call.ensures.made; fails = ap (λ v. v.items) (c.fault.ensures.fails ∙ c.call.ensures.fails); stop = c.fault.ensures.stop ∙ c.call.ensures.stop };
}
