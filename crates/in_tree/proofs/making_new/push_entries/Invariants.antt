use Rattle.std.proofs.Common.{◌≡◌, ◌++◌, map, drop}
use Rattle.std.specs.List.{AllByRecursion}
use Rattle.log_entry.specs.Encoding.{size_of}
use Rattle.db_tree.specs.NodeImages.{IsLoggable}
use Rattle.in_tree.proofs.making_new.push_entries.Given as goal

abbrev pub invariant-loop-entry : goal.invariant-loop-entry
invariant-loop-entry l = record {
  loggable : AllByRecursion IsLoggable (drop l.entry-index l.entries);
  sizes : l.sizes.items ++ map size_of (drop l.entry-index l.entries) ≡ l.initial.sizes.items ++ map size_of l.entries;
}
