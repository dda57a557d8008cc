use Rattle.node_log.proofs.EntryLimits.{images_are_entries, deltas_are_entries}
use Rattle.node_log.proofs.laws.images_are_entries.Goals as goal

pub returns-clause-full : goal.returns-clause-full
returns-clause-full c = images_are_entries

pub returns-clause-delta : goal.returns-clause-delta
returns-clause-delta c = deltas_are_entries
