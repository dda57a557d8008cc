use Rattle.std.proofs.Common.{rules}
use Rattle.mem_disk.proofs.file_map.take_away.Goals as goal

pub returns : goal.returns
returns c = search rules
