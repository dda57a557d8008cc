use Rattle.std.proofs.Common.{ap, refl}
use Rattle.je_disk.specs.declared.jobs.Jobs.{Jobs}
use Rattle.dir_disk.proofs.dir.DirDisk.new.Goals as goal

pub returns : goal.returns
returns g c = record {
  path = c.in_ok-folder.ensures.path;
  faults = refl;
  sync_out = ap (λ (j : Jobs). j.sync) c.new-2.ensures;
  read_out = ap (λ (j : Jobs). j.reading) c.new-2.ensures;
  last_job = ap (λ (j : Jobs). j.last_job) c.new-2.ensures;
}
