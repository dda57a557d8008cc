use Rattle.std.proofs.Common.{rules}
use Rattle.script_text.proofs.calls.remove_of.Goals as goal

pub from_slice-requires : goal.from_slice-requires
from_slice-requires c = search rules
