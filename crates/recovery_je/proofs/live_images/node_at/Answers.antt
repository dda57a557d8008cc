use Rattle.std.proofs.Common.{◌∙◌, sym}
use Rattle.log_entry.specs.Body.{IsEntry}
use Rattle.recovery_je.proofs.LookupLaws.{named_entry}
use Rattle.recovery_je.proofs.live_images.node_at.Goals as goal

pub node_of-node-requires-clause-entry : goal.node_of-node-requires-clause-entry
node_of-node-requires-clause-entry c = named_entry IsEntry c.args.entries.now c.args.at c.in-Some.entry c.requires.entries (sym c.in-Some.is ∙ c.in_ok-entry.ensures)
