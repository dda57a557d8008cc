use Rattle.std.proofs.Common.{◌∷◌, [], refl}
use Rattle.log_entry.specs.declared.entry.Entry.TheVariants.{Commit}
use Rattle.in_tree.proofs.Written.{on_err}
use Rattle.in_tree.proofs.TreesGrown.{commit_grows}
use Rattle.in_tree.proofs.logged_trees.LogTreesRecords.commit.Goals as goal

pub returns-in_err-at-clause-tried : goal.returns-in_err-at-clause-tried
returns-in_err-at-clause-tried g c =
    on_err c.from_residual.result
    (Commit c.args.txn ∷ [], ([], refl), c.in_err-at.ensures.tried)

pub returns-clause-grew : goal.returns-clause-grew
returns-clause-grew g c = commit_grows g.D.Disk.meaning c.args.txn c.in_ok-at.at c.args.names.now c.args.self.now.log c.log_commit.new.log c.args.self.now.trees.last_node c.args.self.now.trees.forest c.commit_each.new.trees c.in_ok-at.ensures.grew c.in_ok-at.ensures.at c.requires.own c.commit_each.ensures.steps
