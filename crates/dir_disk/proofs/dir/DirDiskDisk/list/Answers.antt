use Rattle.std.proofs.Common.{ap}
use Rattle.je_disk.specs.declared.jobs.Jobs.{Jobs}
use Rattle.dir_disk.proofs.FaultCauses.{untold, is_kept}
use Rattle.dir_disk.proofs.dir.DirDiskDisk.list.Goals as goal

pub returns : goal.returns
returns g c = record {
  rising = is_kept _ _ _ c.map_fault_or_memory.ensures.ok c.list-answer.ensures;
  listed = λ t. absurd (untold t);
  same = λ t. absurd (untold t);
  moments = λ t. absurd (untold t);
  sync_out = ap (λ (j : Jobs). j.sync) c.map_fault_or_memory.ensures.jobs;
  read_out = ap (λ (j : Jobs). j.reading) c.map_fault_or_memory.ensures.jobs;
  read_of = ap (λ (j : Jobs). j.file.0) c.map_fault_or_memory.ensures.jobs;
  last_job = ap (λ (j : Jobs). j.last_job) c.map_fault_or_memory.ensures.jobs;
  cause = c.map_fault_or_memory.ensures.cause;
}
