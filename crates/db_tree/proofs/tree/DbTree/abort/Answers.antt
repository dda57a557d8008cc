use Rattle.record_map.specs.Cells.{value_at}
use Rattle.record_tree.specs.Occupied.{after_abort}
use Rattle.db_tree.specs.Trees.{given_up}
use Rattle.db_tree.proofs.Records.{given_kept, gives_up}
use Rattle.db_tree.proofs.Seen.{change_seen, abort_seen, occupied_rises}
use Rattle.db_tree.proofs.DirtyCells.{exact_held}
use Rattle.db_tree.proofs.tree.DbTree.abort.Goals as goal

pub returns-clause-tree : goal.returns-clause-tree
returns-clause-tree c = λ es base newest tree.
    gives_up es base newest c.args.self.now.levels c.args.self.now.cells c.give_up.new.cells c.args.name.now c.give_up.ensures tree

pub returns-clause-seen : goal.returns-clause-seen
returns-clause-seen c =
    let old = c.args.self.now.cells in
    change_seen old c.give_up.new.cells c.args.name.now (given_up (value_at c.args.name.now old)) after_abort
    c.len-before.ensures.rising c.len-after.ensures.rising c.give_up.ensures (abort_seen (value_at c.args.name.now old))

pub returns-clause-rising : goal.returns-clause-rising
returns-clause-rising c = occupied_rises c.give_up.new.cells c.len-after.ensures.rising

pub returns-clause-exact : goal.returns-clause-exact
returns-clause-exact c = λ es base newest tree due exact.
    let old = c.args.self.now.cells in
    exact_held due c.args.self.now.levels old c.give_up.new.cells c.len-before.ensures.rising c.len-after.ensures.rising (given_kept old c.give_up.new.cells c.args.name.now c.give_up.ensures (tree.know.unset c.args.name.now)) exact
