use Rattle.std.proofs.Common.{ap, ◌∙◌}
use Rattle.je_disk.specs.declared.jobs.Jobs.{Jobs}
use Rattle.dir_disk.proofs.FaultCauses.{untold}
use Rattle.dir_disk.proofs.dir.DirDiskDisk.end_read.Goals as goal

pub returns : goal.returns
returns g c = record {
  bytes = λ t. absurd (untold t);
  same = λ t. absurd (untold t);
  moments = λ t. absurd (untold t);
  none_out = ap (λ (j : Jobs). j.reading) (c.map_fault_or_memory.ensures.jobs ∙ c.give_up_reading.ensures);
  sync_out = ap (λ (j : Jobs). j.sync) (c.map_fault_or_memory.ensures.jobs ∙ c.give_up_reading.ensures);
  last_job = ap (λ (j : Jobs). j.last_job) (c.map_fault_or_memory.ensures.jobs ∙ c.give_up_reading.ensures);
  cause = c.map_fault_or_memory.ensures.cause;
}
