use Rattle.std.proofs.Common.{◌∙◌}
use Rattle.in_tree.proofs.RecordCounts.{counted_at}
use Rattle.in_tree.proofs.reading.count_records.Goals as goal

pub returns : goal.returns
returns c = c.count.ensures ∙ counted_at c.args.trees.now c.args.db
