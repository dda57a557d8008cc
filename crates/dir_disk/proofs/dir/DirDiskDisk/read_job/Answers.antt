use Rattle.std.proofs.Common.{◌≡◌, ◌+◌, Some, ap, sym, ◌∙◌}
use Rattle.je_disk.specs.declared.jobs.Jobs.{Jobs}
use Rattle.dir_disk.proofs.FaultCauses.{untold, is_fault, value_is, same_cause}
use Rattle.je_order.proofs.Results.{no_value, no_ok, at_error}
use Rattle.dir_disk.proofs.dir.DirDiskDisk.read_job.Goals as goal

pub returns-in_default : goal.returns-in_default
returns-in_default g c = record {
  same = λ t. absurd (untold t);
  moments = λ t. absurd (untold t);
  number = tt;
  begun = tt;
  none_out = ap (λ (j : Jobs). j.reading) (c.fault.ensures.jobs ∙ c.give_up_reading.ensures);
  sync_out = ap (λ (j : Jobs). j.sync) (c.fault.ensures.jobs ∙ c.give_up_reading.ensures);
  read_of = tt;
  last_job = tt;
  no_new_job = ap (λ (j : Jobs). j.last_job) (c.fault.ensures.jobs ∙ c.give_up_reading.ensures);
  cause = is_fault _ _ _ c.fault.ensures.failed c.fault.ensures.rose c.fault.ensures.never_falls;
}

pub returns-in_err-job : goal.returns-in_err-job
returns-in_err-job g c = record {
  same = λ t. absurd (untold t);
  moments = λ t. absurd (untold t);
  number = no_value _ _ c.from_residual.ensures.0;
  begun = no_value _ _ c.from_residual.ensures.0;
  none_out = at_error _ (ap (λ (j : Jobs). j.reading) (c.map_fault.ensures.jobs ∙ c.give_up_reading.ensures));
  sync_out = ap (λ (j : Jobs). j.sync) (c.map_fault.ensures.jobs ∙ c.give_up_reading.ensures);
  read_of = no_ok _ _ c.from_residual.ensures.0;
  last_job = no_value _ _ c.from_residual.ensures.0;
  no_new_job = at_error _ (ap (λ (j : Jobs). j.last_job) (c.map_fault.ensures.jobs ∙ c.give_up_reading.ensures));
  cause = same_cause _ _ c.in_err-job.field-0.0 _ c.from_residual.ensures.0 c.from_residual.ensures.1 c.in_err-job.ensures.cause;
}

pub returns : goal.returns
returns g c = record {
  same = λ t. absurd (untold t);
  moments = λ t. absurd (untold t);
  number = value_is _ c.in_ok-job.job (λ job. job.number ≡ c.in-Some.number) c.in_ok-job.ensures.ok c.begin_read-answer.ensures ∙ c.in-Some.ensures.some ∙ ap (λ (j : Jobs). j.last_job + 1) c.give_up_reading.ensures;
  begun = ap (λ (j : Jobs). j.reading) c.begin_reading.ensures ∙ ap (λ n. Some n) (sym (value_is _ c.in_ok-job.job (λ job. job.number ≡ c.in-Some.number) c.in_ok-job.ensures.ok c.begin_read-answer.ensures));
  none_out = tt;
  sync_out = ap (λ (j : Jobs). j.sync) c.begin_reading.ensures ∙ ap (λ (j : Jobs). j.sync) (c.map_fault.ensures.jobs ∙ c.give_up_reading.ensures);
  read_of = ap (λ (j : Jobs). j.file.0) c.begin_reading.ensures;
  last_job = ap (λ (j : Jobs). j.last_job) c.begin_reading.ensures ∙ sym (value_is _ c.in_ok-job.job (λ job. job.number ≡ c.in-Some.number) c.in_ok-job.ensures.ok c.begin_read-answer.ensures);
  no_new_job = tt;
  cause = c.in_ok-job.ensures.cause;
}
