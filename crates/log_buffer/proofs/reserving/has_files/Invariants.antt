use Rattle.std.proofs.Common.{◌≡◌, ◌<◌, ◌≤◌, ◌^◌, drop}
use Rattle.je_lsn.specs.Naming.{last_file}
use Rattle.log_buffer.specs.Flip.{end_after_all}
use Rattle.log_buffer.proofs.reserving.has_files.Given as goal

abbrev pub invariant-loop-size : goal.invariant-loop-size
invariant-loop-size l = record {
  all : end_after_all l.file_max l.fn.end l.sizes ≡ end_after_all l.file_max l.end (drop l.size-index l.sizes);
  file : l.end.file ≤ last_file;
  offset : l.end.offset < 2 ^ 33;
}
