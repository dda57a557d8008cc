use Rattle.std.proofs.Common.{refl, ap, sym, ◌∙◌, length}
use Rattle.je_disk.specs.States.{State, content}
use Rattle.je_disk.proofs.MomentLaws.{passes_none}
use Rattle.mem_disk.proofs.CallCounts.{call_failed, no_fault, is_due, due_at}
use Rattle.je_order.proofs.Results.{no_value}
use Rattle.mem_disk.proofs.ChangeReplay.{now-history_of}
use Rattle.mem_disk.proofs.memory.MemDiskDisk.len.Goals as goal

pub returns-in_err-call : goal.returns-in_err-call
returns-in_err-call c = record {
  length = no_value _ _ c.from_residual.ensures.0;
  same = refl;
  moments = passes_none _ _;
  sync_out = refl;
  read_out = refl;
  read_of = refl;
  last_job = refl;
  cause = call_failed _ _ c.in_err-call.field-0.0 _ c.from_residual.ensures.0 c.from_residual.ensures.1 c.in_err-call.ensures.cause;
  due = (λ _. is_due _ _ _ _ c.in_err-call.ensures.made (c.in_err-call.ensures.due.0 refl), λ _. c.from_residual.ensures.0);
  counted = record { calls = c.call.ensures.made; fails = ap (λ v. v.items) c.call.ensures.fails; stop = c.call.ensures.stop };
}

pub returns : goal.returns
returns c = record {
  length = c.len.ensures ∙ ap (λ (s : State). length (content s.reads c.args.f.0)) (sym (now-history_of c.args.self.now.file_map.changes.items));
  same = refl;
  moments = passes_none _ _;
  sync_out = refl;
  read_out = refl;
  read_of = refl;
  last_job = refl;
  cause = no_fault _ _ _ c.in_ok-call.ensures.steady;
  due = due_at _ _ _ _ _ c.in_ok-call.ensures.made c.in_ok-call.ensures.due;
  counted = record { calls = c.call.ensures.made; fails = ap (λ v. v.items) c.call.ensures.fails; stop = c.call.ensures.stop };
}
