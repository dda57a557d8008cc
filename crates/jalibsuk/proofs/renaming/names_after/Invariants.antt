use Rattle.std.proofs.Common.{◌≡◌, ◌++◌, drop}
use Rattle.jalibsuk.specs.Named.{names_after}
use Rattle.jalibsuk.proofs.renaming.names_after.Given as goal

-- the names that are made and those left to make are all
abbrev pub invariant-loop-entry : goal.invariant-loop-entry
invariant-loop-entry l = l.after.items ++ names_after l.name l.to (drop l.entry-index l.names) ≡ names_after l.name l.to l.names
