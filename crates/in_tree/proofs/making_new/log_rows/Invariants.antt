use Rattle.std.proofs.Common.{drop}
use Rattle.std.specs.List.{AllByRecursion}
use Rattle.log_entry.specs.Body.{IsEntry}
use Rattle.record_tree.specs.declared.tree_change.TreeChange.{TreeChange}
use Rattle.record_tree.specs.Logged.{entry_for}
use Rattle.in_tree.specs.Filled.{entries_with, AreAllLoggable}
use Rattle.in_tree.proofs.FillLogged.{LogsLeft}
use Rattle.in_tree.proofs.making_new.log_rows.Given as goal

abbrev pub invariant-loop-i : goal.invariant-loop-i
invariant-loop-i g l = record {
  entries : AllByRecursion (λ (c : TreeChange). IsEntry (entry_for l.txn c.db c.name c.value)) (drop l.i l.rows);
  loggable : AreAllLoggable (drop l.i l.images);
  logs : LogsLeft g.D.Disk.meaning l.initial.log l.log (entries_with l.txn l.rows l.images) (entries_with l.txn (drop l.i l.rows) (drop l.i l.images));
}
