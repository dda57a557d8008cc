use Rattle.std.proofs.Common.{◌≡◌, ◌≤◌, ◌+◌, ◌||◌, ◌∙◌, ℕ, [], List, length, ap, is_some, subst, sym}
use Rattle.log_entry.specs.declared.entry.Entry.{Entry}
use Rattle.record_tree.specs.declared.tree_change.TreeChange.{TreeChange}
use Rattle.record_tree.specs.declared.tree_err.TreeErr.TheVariants.{Fault}
use Rattle.record_tree.specs.Logged.{is_made, most_entries, LogsChanges}
use Rattle.record_tree.specs.Occupied.{AreWritten}
use Rattle.db_tree.proofs.Ending.{ok_then}
use Rattle.in_tree.specs.Filling.{AreFilling}
use Rattle.in_tree.specs.Fitting.{fitting_tried, fitting_unchanged}
use Rattle.in_tree.specs.Forest.{cells_seen, is_there}
use Rattle.in_tree.specs.Observed.{GrewTrees}
use Rattle.in_tree.specs.Waits.{waits_in}
use Rattle.in_tree.proofs.Checked.{ends_by, tried_before}
use Rattle.in_tree.proofs.FillGrown.{fill_grows, fill_trees, fill_written, waits_less}
use Rattle.in_tree.proofs.TreesGrown.{trees_stay}
use Rattle.in_tree.proofs.Waits.{same_waits}
use Rattle.in_tree.proofs.logged_trees.LogTrees.write_new.Goals as goal

pub returns-then-has_failed-clause-tried : goal.returns-then-has_failed-clause-tried
returns-then-has_failed-clause-tried g c = λ is. tried_before g.D.Disk.meaning c.args.txn c.args.changes.now c.args.self.now.log (sym c.has_failed.ensures ∙ c.if-has_failed.true)

pub returns-in-Ok-prepare_new-clause-cells : goal.returns-in-Ok-prepare_new-clause-cells
returns-in-Ok-prepare_new-clause-cells g c =
    ok_then c.log_new.result
    (λ logged. subst (λ (cs : List TreeChange). AreWritten c.args.txn cs (cells_seen c.args.self.now.trees.forest) (cells_seen c.log_new.new.self.trees.forest)) (sym c.in-Some.ensures.cases.0)
    (fill_written g.D.Disk.meaning c.args.txn c.in-Some.change.now c.in-Some.rows.now c.in-Some-makes.db c.args.owed c.in-Ok-prepare_new.room c.in-Ok-prepare_new.filled c.args.self.now c.prepare_new.new.self c.log_new.new.self c.in-Some-makes.is
    (subst (AreFilling (is_there c.args.self.now.trees.forest)) c.in-Some.ensures.cases.0 c.requires.fills) c.prepare_new.ensures.log c.in-Ok-prepare_new.ensures.ready logged c.prepare_new.ensures.same))
    c.log_new.ensures.logged

pub returns-in-Ok-prepare_new-clause-trees : goal.returns-in-Ok-prepare_new-clause-trees
returns-in-Ok-prepare_new-clause-trees g c =
    ok_then c.log_new.result
    (λ logged. subst (λ (cs : List TreeChange). (d : ℕ) → is_there c.log_new.new.self.trees.forest d ≡ (is_made d cs || is_there c.args.self.now.trees.forest d)) (sym c.in-Some.ensures.cases.0)
    (fill_trees g.D.Disk.meaning c.args.txn c.in-Some.change.now c.in-Some.rows.now c.in-Some-makes.db c.args.owed c.in-Ok-prepare_new.room c.in-Ok-prepare_new.filled c.args.self.now c.prepare_new.new.self c.log_new.new.self c.in-Some-makes.is
    (subst (AreFilling (is_there c.args.self.now.trees.forest)) c.in-Some.ensures.cases.0 c.requires.fills) c.prepare_new.ensures.log c.in-Ok-prepare_new.ensures.ready logged))
    c.log_new.ensures.logged

pub returns-in-Ok-prepare_new-clause-grew : goal.returns-in-Ok-prepare_new-clause-grew
returns-in-Ok-prepare_new-clause-grew g c =
    ok_then c.log_new.result
    (λ logged. subst (λ (cs : List TreeChange). (a : List Entry) × LogsChanges c.args.txn cs a × GrewTrees g.D.Disk.meaning c.args.self.now c.log_new.new.self a
    × (length a + waits_in c.log_new.new.self.trees.forest ≤ waits_in c.args.self.now.trees.forest + most_entries (length cs))) (sym c.in-Some.ensures.cases.0)
    (fill_grows g.D.Disk.meaning c.args.txn c.in-Some.change.now c.in-Some.rows.now c.in-Some-makes.db c.args.owed c.in-Ok-prepare_new.room c.in-Ok-prepare_new.filled c.args.self.now c.prepare_new.new.self c.log_new.new.self c.in-Some-makes.is
    (subst (AreFilling (is_there c.args.self.now.trees.forest)) c.in-Some.ensures.cases.0 c.requires.fills) c.prepare_new.ensures.log c.in-Ok-prepare_new.ensures.ready logged))
    c.log_new.ensures.logged

pub returns-in-Ok-prepare_new-clause-waits : goal.returns-in-Ok-prepare_new-clause-waits
returns-in-Ok-prepare_new-clause-waits g c =
    ok_then c.log_new.result
    (λ logged. waits_less g.D.Disk.meaning c.args.txn c.in-Some.change.now c.in-Some.rows.now c.in-Some-makes.db c.args.owed c.in-Ok-prepare_new.room c.in-Ok-prepare_new.filled c.args.self.now c.prepare_new.new.self c.log_new.new.self c.in-Some-makes.is
    (subst (AreFilling (is_there c.args.self.now.trees.forest)) c.in-Some.ensures.cases.0 c.requires.fills) c.prepare_new.ensures.log c.in-Ok-prepare_new.ensures.ready logged)
    c.log_new.ensures.logged

pub returns-in-Ok-prepare_new-clause-tried : goal.returns-in-Ok-prepare_new-clause-tried
returns-in-Ok-prepare_new-clause-tried g c =
    ends_by c.log_new.result Fault
    (λ tried. (
      tried.0,
      tried.1,
      subst (λ (cs : List TreeChange). LogsChanges c.args.txn cs tried.0) (sym c.in-Some.ensures.cases.0) tried.2,
      tried.3,
      fitting_tried g.D.Disk.meaning c.args.self.now.log c.prepare_new.new.self.log c.log_new.new.self.log [] tried.1
          (fitting_unchanged g.D.Disk.meaning c.args.self.now.log c.prepare_new.new.self.log c.prepare_new.ensures.log) tried.4,
    ))
    c.log_new.ensures.tried

pub returns-in-Err-clause-same : goal.returns-in-Err-clause-same
returns-in-Err-clause-same g c = λ undone.
    let back = c.in-Err.ensures.err.0 in (
      c.prepare_new.ensures.same,
      λ d. ap is_some (back d),
      trees_stay g.D.Disk.meaning c.args.self.now.log c.prepare_new.new.self.log c.args.self.now.trees.last_node c.prepare_new.new.self.trees.last_node c.args.self.now.trees.forest c.prepare_new.new.self.trees.forest
          c.prepare_new.ensures.log back c.in-Err.ensures.err.1,
      same_waits c.args.self.now.trees.forest c.prepare_new.new.self.trees.forest back,
    )
