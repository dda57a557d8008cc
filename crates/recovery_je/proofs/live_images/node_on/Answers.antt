use Rattle.std.proofs.Common.{◌∙◌, sym}
use Rattle.log_entry.specs.Body.{IsEntry}
use Rattle.recovery_je.proofs.LookupLaws.{named_entry}
use Rattle.recovery_je.proofs.live_images.node_on.Goals as goal

pub from_entries-node-requires : goal.from_entries-node-requires
from_entries-node-requires c = named_entry IsEntry c.args.entries.now c.args.full c.in-Some.base c.requires.entries (sym c.in-Some.is ∙ c.in_ok-base.ensures)
