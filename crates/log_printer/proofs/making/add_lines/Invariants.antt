use Rattle.std.proofs.Common.{◌++◌, drop}
use Rattle.log_printer.specs.LogLines.{lines_of_entries}
use Rattle.log_printer.proofs.EntryLines.{IsPrinted}
use Rattle.log_printer.proofs.making.add_lines.Given as goal

-- the lines so far and those of the entries that are left are the lines that were there and those of all entries
abbrev pub invariant-loop-entry : goal.invariant-loop-entry
invariant-loop-entry l =
    IsPrinted l.file.0 (l.initial.lines.items ++ lines_of_entries l.file.0 26 0 l.entries) l.lines.items l.at l.prev (drop l.entry-index l.entries)
