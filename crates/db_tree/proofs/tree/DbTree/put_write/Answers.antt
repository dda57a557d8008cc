use Rattle.std.proofs.Common.{Some, option_map}
use Rattle.record_map.specs.Cells.{value_at, with_write}
use Rattle.db_tree.specs.Seen.{with_change}
use Rattle.db_tree.proofs.Seen.{change_seen, write_seen_at, kept_put, some_mapped, occupied_rises}
use Rattle.db_tree.proofs.NodeSteps.{write_held, write_kept}
use Rattle.db_tree.proofs.DirtyCells.{exact_held}
use Rattle.db_tree.proofs.tree.DbTree.put_write.Goals as goal

pub returns-clause-cells : goal.returns-clause-cells
returns-clause-cells c =
    let old = c.args.self.now.cells in
    change_seen old c.set_write.new.self c.args.name.now (option_map (with_write (Some c.args.write)) (value_at c.args.name.now old)) (with_change c.args.write.value)
    c.len-len.ensures.rising c.set_write.ensures.rising c.set_write.ensures.others (write_seen_at (value_at c.args.name.now old) c.args.write c.requires)

pub returns-clause-kept : goal.returns-clause-kept
returns-clause-kept c =
    let old = c.args.self.now.cells in
    kept_put old c.set_write.new.self c.args.name.now (option_map (with_write (Some c.args.write)) (value_at c.args.name.now old)) c.set_write.ensures.others
    (some_mapped (with_write (Some c.args.write)) (value_at c.args.name.now old) c.requires)

pub returns-clause-rising : goal.returns-clause-rising
returns-clause-rising c = occupied_rises c.set_write.new.self c.set_write.ensures.rising

pub returns-clause-tree : goal.returns-clause-tree
returns-clause-tree c = λ es base newest tree. write_kept es base newest c.args.self.now.levels c.args.self.now.cells c.set_write.new.self c.args.name.now (Some c.args.write) c.set_write.ensures.others tree

pub returns-clause-exact : goal.returns-clause-exact
returns-clause-exact c = λ due exact.
    exact_held due c.args.self.now.levels c.args.self.now.cells c.set_write.new.self c.len-len.ensures.rising c.set_write.ensures.rising
    (write_held c.args.self.now.cells c.set_write.new.self c.args.name.now (Some c.args.write) c.set_write.ensures.others) exact
