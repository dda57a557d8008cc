use Rattle.std.proofs.Common.{◌≡◌, ◌+◌, Some, ap, sym, ◌∙◌}
use Rattle.je_disk.specs.declared.jobs.Jobs.{Jobs}
use Rattle.dir_disk.proofs.FaultCauses.{untold, is_fault, value_is, same_cause}
use Rattle.je_order.proofs.Results.{no_value, at_error}
use Rattle.dir_disk.proofs.dir.DirDiskDisk.begin_sync.Goals as goal

pub returns-in_default : goal.returns-in_default
returns-in_default g c = record {
  done = λ t. absurd (untold t);
  moments = λ t. absurd (untold t);
  number = tt;
  begun = tt;
  none_out = ap (λ (j : Jobs). j.sync) (c.fault.ensures.jobs ∙ c.give_up_sync.ensures);
  read_out = ap (λ (j : Jobs). j.reading) (c.fault.ensures.jobs ∙ c.give_up_sync.ensures);
  read_of = ap (λ (j : Jobs). j.file.0) (c.fault.ensures.jobs ∙ c.give_up_sync.ensures);
  last_job = tt;
  no_new_job = ap (λ (j : Jobs). j.last_job) (c.fault.ensures.jobs ∙ c.give_up_sync.ensures);
  cause = is_fault _ _ _ c.fault.ensures.failed c.fault.ensures.rose c.fault.ensures.never_falls;
}

pub returns-in_err-job : goal.returns-in_err-job
returns-in_err-job g c = record {
  done = λ t. absurd (untold t);
  moments = λ t. absurd (untold t);
  number = no_value _ _ c.from_residual.ensures.0;
  begun = no_value _ _ c.from_residual.ensures.0;
  none_out = at_error _ (ap (λ (j : Jobs). j.sync) (c.map_fault.ensures.jobs ∙ c.give_up_sync.ensures));
  read_out = ap (λ (j : Jobs). j.reading) (c.map_fault.ensures.jobs ∙ c.give_up_sync.ensures);
  read_of = ap (λ (j : Jobs). j.file.0) (c.map_fault.ensures.jobs ∙ c.give_up_sync.ensures);
  last_job = no_value _ _ c.from_residual.ensures.0;
  no_new_job = at_error _ (ap (λ (j : Jobs). j.last_job) (c.map_fault.ensures.jobs ∙ c.give_up_sync.ensures));
  cause = same_cause _ _ c.in_err-job.field-0.0 _ c.from_residual.ensures.0 c.from_residual.ensures.1 c.in_err-job.ensures.cause;
}

pub returns : goal.returns
returns g c = record {
  done = λ t. absurd (untold t);
  moments = λ t. absurd (untold t);
  number = value_is _ c.in_ok-job.job (λ job. job.number ≡ c.in-Some.number) c.in_ok-job.ensures.ok c.begin_sync-answer.ensures ∙ c.in-Some.ensures.some ∙ ap (λ (j : Jobs). j.last_job + 1) c.give_up_sync.ensures;
  begun = ap (λ (j : Jobs). j.sync) c.begin_sync.ensures ∙ ap (λ n. Some n) (sym (value_is _ c.in_ok-job.job (λ job. job.number ≡ c.in-Some.number) c.in_ok-job.ensures.ok c.begin_sync-answer.ensures));
  none_out = tt;
  read_out = ap (λ (j : Jobs). j.reading) c.begin_sync.ensures ∙ ap (λ (j : Jobs). j.reading) (c.map_fault.ensures.jobs ∙ c.give_up_sync.ensures);
  read_of = ap (λ (j : Jobs). j.file.0) c.begin_sync.ensures ∙ ap (λ (j : Jobs). j.file.0) (c.map_fault.ensures.jobs ∙ c.give_up_sync.ensures);
  last_job = ap (λ (j : Jobs). j.last_job) c.begin_sync.ensures ∙ sym (value_is _ c.in_ok-job.job (λ job. job.number ≡ c.in-Some.number) c.in_ok-job.ensures.ok c.begin_sync-answer.ensures);
  no_new_job = tt;
  cause = c.in_ok-job.ensures.cause;
}
