use Rattle.std.proofs.Common.{◌∙◌, ap, is_some, sym}
use Rattle.in_tree.specs.Placing.{count_images}
use Rattle.in_tree.specs.Waits.{waits_in}
use Rattle.in_tree.proofs.Checked.{if_ok_then, tried_before}
use Rattle.in_tree.proofs.TreesGrown.{changes_grow, trees_stay}
use Rattle.in_tree.proofs.Waits.{same_waits}
use Rattle.in_tree.proofs.logged_trees.LogTreesRecords.write_all.Goals as goal

pub returns-then-has_failed-clause-tried : goal.returns-then-has_failed-clause-tried
returns-then-has_failed-clause-tried g c = λ is. tried_before g.D.Disk.meaning c.args.txn c.args.changes.now c.args.self.now.log (sym c.has_failed.ensures ∙ c.if-has_failed.true)

pub returns-in-Ok-prepare-clause-grew : goal.returns-in-Ok-prepare-clause-grew
returns-in-Ok-prepare-clause-grew g c =
    if_ok_then c.write_each.result
    (λ first. changes_grow g.D.Disk.meaning c.args.txn c.args.changes.now c.in-Ok-prepare.rooms.items c.args.owed _ c.prepare.new.self c.write_each.new.log c.write_each.new.trees
    (count_images c.in-Ok-prepare.rooms.items) (waits_in c.args.self.now.trees.forest) (waits_in c.prepare.new.self.trees.forest) (waits_in c.write_each.new.trees) first
    c.prepare.ensures.log c.requires.few c.in-Ok-prepare.ensures.ready c.in-Ok-prepare.ensures.ready.few c.write_each.ensures.waits)
    c.write_each.ensures.grew

pub returns-in-Err-clause-same : goal.returns-in-Err-clause-same
returns-in-Err-clause-same g c = λ undone.
    let back = c.in-Err.ensures.err.0 in (
      c.prepare.ensures.same,
      λ d. ap is_some (back d),
      trees_stay g.D.Disk.meaning c.args.self.now.log c.prepare.new.self.log c.args.self.now.trees.last_node c.prepare.new.self.trees.last_node c.args.self.now.trees.forest c.prepare.new.self.trees.forest
          c.prepare.ensures.log back c.in-Err.ensures.err.1,
      same_waits c.args.self.now.trees.forest c.prepare.new.self.trees.forest back,
    )
