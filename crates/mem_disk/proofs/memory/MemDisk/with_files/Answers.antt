use Rattle.std.proofs.Common.{ℕ, List, Vec, ap, ◌∙◌}
use Rattle.std.specs.declared.alloc.Global.{Global}
use Rattle.je_lsn.specs.declared.file_no.FileNo.{FileNo}
use Rattle.je_disk.specs.States.{synced}
use Rattle.je_disk.specs.declared.jobs.Jobs.{Jobs}
use Rattle.mem_disk.specs.Replay.{listed, held}
use Rattle.mem_disk.proofs.ChangeReplay.{now-history_of}
use Rattle.mem_disk.proofs.memory.MemDisk.with_files.Goals as goal

pub returns : goal.returns
returns c = record {
  state = now-history_of c.in_ok-with_files.field-0.changes.items ∙ c.in_ok-with_files.ensures ∙ ap (λ (files : List (FileNo × Vec ℕ Global)). synced (held (listed files))) c.as_slice.ensures.value;
  faults = c.new-2.ensures.faults;
  calls = c.new-2.ensures.made;
  fails = c.new-2.ensures.fails ∙ c.new.ensures.items;
  stop = c.new-2.ensures.stop;
  sync_out = ap (λ (j : Jobs). j.sync) c.new-3.ensures;
  read_out = ap (λ (j : Jobs). j.reading) c.new-3.ensures;
  last_job = ap (λ (j : Jobs). j.last_job) c.new-3.ensures;
}
