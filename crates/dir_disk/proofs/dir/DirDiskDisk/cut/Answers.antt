use Rattle.std.proofs.Common.{ap}
use Rattle.je_disk.specs.declared.jobs.Jobs.{Jobs}
use Rattle.dir_disk.proofs.FaultCauses.{untold}
use Rattle.dir_disk.proofs.dir.DirDiskDisk.cut.Goals as goal

pub returns : goal.returns
returns g c = record {
  done = λ t. absurd (untold t);
  moments = λ t. absurd (untold t);
  sync_out = ap (λ (j : Jobs). j.sync) c.map_fault.ensures.jobs;
  read_out = ap (λ (j : Jobs). j.reading) c.map_fault.ensures.jobs;
  read_of = ap (λ (j : Jobs). j.file.0) c.map_fault.ensures.jobs;
  last_job = ap (λ (j : Jobs). j.last_job) c.map_fault.ensures.jobs;
  cause = c.map_fault.ensures.cause;
}
