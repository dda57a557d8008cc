use Rattle.std.proofs.Common.{rules}
use Rattle.dir_disk.proofs.dir.DirDiskDisk.mount.Goals as goal

pub returns-clause-sync_out : goal.returns-clause-sync_out
returns-clause-sync_out g c = search rules

pub returns-clause-read_out : goal.returns-clause-read_out
returns-clause-read_out g c = search rules
