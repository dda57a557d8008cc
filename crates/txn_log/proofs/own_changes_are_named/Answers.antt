use Rattle.txn_log.proofs.OwnLaws.{none_is_last, trees_are_own, own_are_trees}
use Rattle.txn_log.proofs.own_changes_are_named.Goals as goal

pub returns : goal.returns
returns c = record { free = none_is_last; trees = trees_are_own; own = own_are_trees }
