-- The greatest numbers in the entries of a log.
use Rattle.std.specs.Prelude.{ℕ, max, nat_le, List, [], ◌∷◌, if◌then◌else◌}
use Rattle.log_entry.specs.declared.entry.Entry.{Entry}
use Rattle.log_replay.specs.Replay.{txn_in}
use Rattle.log_trees.specs.Placed.{Placed}
use Rattle.log_meaning.specs.Meaning.{node_number, db_number}
use Rattle.recovery_je.specs.declared.numbers.Numbers.{Numbers}

-- numbers with those of an entry
abbrev pub with_entry : Entry → Numbers → Numbers
with_entry entry n = record { txn = max n.txn (txn_in entry); node = max n.node (node_number entry); db = max n.db (db_number entry) }

-- numbers with those of an entry that stands at an LSN or behind it
abbrev pub with_placed : ℕ → Placed → Numbers → Numbers
with_placed r p n = if nat_le r p.0 then with_entry p.1 n else n

-- numbers that were nothing before
abbrev pub none_numbered : Numbers
none_numbered = record { txn = 0; node = 0; db = 0 }

-- numbers with those of the entries that stand at an LSN or behind it, in order
abbrev pub numbers_over : ℕ → List Placed → Numbers → Numbers
numbers_over r [] n = n
numbers_over r (p ∷ es) n = numbers_over r es (with_placed r p n)
