use Rattle.std.proofs.Common.{◌≡◌, ◌++◌, ◌+◌, ◌<◌, ◌^◌, List, reverse, length}
use Rattle.std.specs.List.{AllByRecursion}
use Rattle.log_entry.specs.Body.{IsEntry}
use Rattle.log_file.specs.Scan.{sizes_of}
use Rattle.log_trees.specs.Placed.{Placed, placed_from}
use Rattle.recovery_je.specs.LogRead.{offsets_from}
use Rattle.recovery_je.specs.Noting.{NotesMore}
use Rattle.recovery_je.proofs.reading.take_entries.Given as goal

abbrev pub invariant-loop-entry : goal.invariant-loop-entry
invariant-loop-entry l = record {
  offsets : l.offsets.items ++ offsets_from l.at (reverse l.left.items) ≡ offsets_from 26 l.fn.entries;
  entries : AllByRecursion IsEntry (reverse l.left.items);
  ends : l.at + sizes_of (reverse l.left.items) < 2 ^ 32;
  done : List Placed;
  parts : done ++ placed_from l.f.0 l.at (reverse l.left.items) ≡ placed_from l.f.0 26 l.fn.entries;
  noted : NotesMore done l.initial.notes l.notes;
}

abbrev pub decreases-loop-entry : goal.decreases-loop-entry
decreases-loop-entry l = length l.left.items
