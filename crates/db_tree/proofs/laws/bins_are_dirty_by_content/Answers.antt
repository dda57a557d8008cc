use Rattle.db_tree.proofs.DirtyContent.{by_content}
use Rattle.db_tree.proofs.laws.bins_are_dirty_by_content.Goals as goal

pub returns : goal.returns
returns c = by_content
