use Rattle.std.proofs.Common.{rules}
use Rattle.mem_disk.proofs.crash_state.MemCrashState.grow.Goals as goal

pub returns : goal.returns
returns c = search rules
