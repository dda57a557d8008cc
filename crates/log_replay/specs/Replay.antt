-- Replaying a log: a transaction's changes count from its commit on.
use Rattle.std.specs.Prelude.{ℕ, ◌++◌, ◌∷◌, [], ◌==◌, List, None, Some, not, filter, max, if◌then◌else◌}
use Rattle.log_entry.specs.declared.entry.Entry.{Entry}
use Rattle.log_entry.specs.declared.entry.Entry.TheVariants.{Put, Delete, Commit}
use Rattle.log_replay.specs.Rows.{Rows, no_rows, RowChange, rows_changed, catalog_number}

-- what a replay has so far: the records, and the changes whose transactions are not committed, in order
pub record Replay : Type 0 where
  pub rows : Rows
  pub pending : List RowChange

-- a replay that begins
abbrev pub nothing_replayed : Replay
nothing_replayed = record { rows = no_rows; pending = [] }

-- the pending changes of a transaction, and those of the others
abbrev pub changes_of : ℕ → List RowChange → List RowChange
changes_of txn pending = filter (λ c. c.txn == txn) pending

abbrev pub changes_of_others : ℕ → List RowChange → List RowChange
changes_of_others txn pending = filter (λ c. not (c.txn == txn)) pending

-- a replay after one more entry; those of the other kinds say nothing
abbrev pub replayed_entry : Entry → Replay → Replay
replayed_entry (Put txn db name value) replay =
    record { rows = replay.rows; pending = replay.pending ++ record { txn = txn.0; db = db; name = name; value = Some value } ∷ [] }
replayed_entry (Delete txn db name) replay =
    record { rows = replay.rows; pending = replay.pending ++ record { txn = txn.0; db = db; name = name; value = None } ∷ [] }
replayed_entry (Commit txn) replay =
    record { rows = rows_changed (changes_of txn.0 replay.pending) replay.rows; pending = changes_of_others txn.0 replay.pending }
replayed_entry entry replay = replay

-- a replay after entries, in order
abbrev pub replayed : List Entry → Replay → Replay
replayed [] replay = replay
replayed (entry ∷ entries) replay = replayed entries (replayed_entry entry replay)

-- the transaction number in an entry, 0 where there is none
abbrev pub txn_in : Entry → ℕ
txn_in (Put txn db name value) = txn.0
txn_in (Delete txn db name) = txn.0
txn_in (Commit txn) = txn.0
txn_in entry = 0

-- the greatest database number in an entry: the one that it is for, or the one in a catalog record
abbrev pub db_in : Entry → ℕ
db_in (Put txn db name value) = if db == 0 then catalog_number value else db
db_in (Delete txn db name) = db
db_in entry = 0

-- the greatest number that entries have, 0 where there is none
abbrev pub greatest : (Entry → ℕ) → List Entry → ℕ
greatest number [] = 0
greatest number (entry ∷ entries) = max (number entry) (greatest number entries)
