use Rattle.std.proofs.Common.{rules}
use Rattle.mem_disk.proofs.file_map.shorten.Goals as goal

pub returns-in-Some : goal.returns-in-Some
returns-in-Some c = search rules
