use Rattle.std.proofs.Common.{ap, ◌∙◌}
use Rattle.je_disk.specs.declared.jobs.Jobs.{Jobs}
use Rattle.dir_disk.proofs.FaultCauses.{is_err_kept}
use Rattle.dir_disk.proofs.dir.DirDiskDisk.end_sync.Goals as goal

pub returns : goal.returns
returns g c = record {
  none_out = ap (λ (j : Jobs). j.sync) (c.map_fault.ensures.jobs ∙ c.give_up_sync.ensures);
  read_out = ap (λ (j : Jobs). j.reading) (c.map_fault.ensures.jobs ∙ c.give_up_sync.ensures);
  read_of = ap (λ (j : Jobs). j.file.0) (c.map_fault.ensures.jobs ∙ c.give_up_sync.ensures);
  last_job = ap (λ (j : Jobs). j.last_job) (c.map_fault.ensures.jobs ∙ c.give_up_sync.ensures);
  failed = λ failed. is_err_kept _ _ c.map_fault.ensures.ok (c.end_sync-answer.ensures.failed (c.worked.ensures ∙ failed));
  cause = c.map_fault.ensures.cause;
}
