use Rattle.std.proofs.Common.{refl, ap, sym, ◌∙◌, min, drop, take, ◌++◌, length}
use Rattle.je_disk.specs.States.{State, content}
use Rattle.je_disk.proofs.MomentLaws.{passes_none}
use Rattle.mem_disk.proofs.CallCounts.{call_failed, no_fault, is_due, due_at}
use Rattle.je_order.proofs.Results.{no_value}
use Rattle.mem_disk.proofs.ChangeReplay.{now-history_of}
use Rattle.mem_disk.proofs.memory.MemDiskDisk.read.Goals as goal

pub returns-in_err-call : goal.returns-in_err-call
returns-in_err-call c = record {
  within = no_value _ _ c.from_residual.ensures.0;
  count = no_value _ _ c.from_residual.ensures.0;
  bytes = no_value _ _ c.from_residual.ensures.0;
  same = refl;
  moments = passes_none _ _;
  sync_out = refl;
  read_out = refl;
  read_of = refl;
  last_job = refl;
  cause = call_failed _ _ c.in_err-call.field-0.0 _ c.from_residual.ensures.0 c.from_residual.ensures.1 c.in_err-call.ensures.cause;
  due = (λ _. is_due _ _ _ _ c.in_err-call.ensures.made (c.in_err-call.ensures.due.0 refl), λ _. c.from_residual.ensures.0);
  counted = record { calls = c.call.ensures.made; fails = ap (λ v. v.items) c.call.ensures.fails; stop = c.call.ensures.stop };
}

pub returns-clause-count : goal.returns-clause-count
returns-clause-count c = c.read.ensures.count ∙ ap (λ (s : State). min (length c.args.into.now) (length (drop c.args.at (content s.reads c.args.f.0)))) (sym (now-history_of c.args.self.now.file_map.changes.items))

pub returns-clause-bytes : goal.returns-clause-bytes
returns-clause-bytes c = c.read.ensures.moved ∙ ap (λ (s : State). take c.read.result (drop c.args.at (content s.reads c.args.f.0)) ++ drop c.read.result c.args.into.now) (sym (now-history_of c.args.self.now.file_map.changes.items))

pub returns-clause-same : goal.returns-clause-same
returns-clause-same c = refl

pub returns-clause-moments : goal.returns-clause-moments
returns-clause-moments c = passes_none _ _

pub returns-clause-sync_out : goal.returns-clause-sync_out
returns-clause-sync_out c = refl

pub returns-clause-read_out : goal.returns-clause-read_out
returns-clause-read_out c = refl

pub returns-clause-read_of : goal.returns-clause-read_of
returns-clause-read_of c = refl

pub returns-clause-last_job : goal.returns-clause-last_job
returns-clause-last_job c = refl

pub returns-clause-cause : goal.returns-clause-cause
returns-clause-cause c = no_fault _ _ _ c.in_ok-call.ensures.steady

pub returns-clause-due : goal.returns-clause-due
returns-clause-due c = due_at _ _ _ _ _ c.in_ok-call.ensures.made c.in_ok-call.ensures.due

pub returns-clause-counted : goal.returns-clause-counted
returns-clause-counted c = record { calls = c.call.ensures.made; fails = ap (λ v. v.items) c.call.ensures.fails; stop = c.call.ensures.stop }
