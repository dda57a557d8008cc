use Rattle.dir_disk.proofs.FaultCauses.{is_fault}
use Rattle.dir_disk.proofs.dir.DirDisk.map_fault.Goals as goal

pub returns-in-Err : goal.returns-in-Err
returns-in-Err g c = record {
  ok = tt;
  jobs = c.fault.ensures.jobs;
  cause = is_fault _ _ _ c.fault.ensures.failed c.fault.ensures.rose c.fault.ensures.never_falls;
}
