use Rattle.std.proofs.Common.{drop}
use Rattle.std.specs.List.{AllByRecursion}
use Rattle.db_tree.specs.NodeImages.{IsLoggable}
use Rattle.in_tree.proofs.FillLogged.{LogsLeft}
use Rattle.in_tree.proofs.making_new.log_entries.Given as goal

abbrev pub invariant-loop-entry : goal.invariant-loop-entry
invariant-loop-entry g l = record {
  loggable : AllByRecursion IsLoggable (drop l.entry-index l.entries);
  logs : LogsLeft g.D.Disk.meaning l.initial.log l.log l.entries (drop l.entry-index l.entries);
}
