use Rattle.std.proofs.Common.{ℕ, List, is_some, ap}
use Rattle.std.specs.Map.{lookup}
use Rattle.std.specs.Ordering.{nat_cmp}
use Rattle.std.specs.BTreeMap.{is_at}
use Rattle.db_tree.specs.declared.tree.DbTree.{DbTree}
use Rattle.in_tree.proofs.trees.Trees.new.Goals as goal

pub returns-clause-none : goal.returns-clause-none
returns-clause-none c = λ d. ap (λ (es : List (ℕ × DbTree)). is_some (lookup (is_at (nat_cmp d)) es)) c.new.ensures.empty
