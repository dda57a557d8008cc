-- Logs of puts, deletes and commits alone: they mean what a replay of the whole log gives.
use Rattle.std.specs.Prelude.{◌≡◌, ℕ, Bool, true, false, List, Result, Ok, Err, map}
use Rattle.std.specs.List.{AllByRecursion}
use Rattle.log_entry.specs.declared.entry.Entry.{Entry}
use Rattle.log_entry.specs.declared.entry.Entry.TheVariants.{Put, Delete, Commit}
use Rattle.log_file.specs.Log.{Log, entries_of, log_in}
use Rattle.log_replay.specs.declared.corruption.Corruption.{Corruption}
use Rattle.log_replay.specs.Rows.{RowChange}
use Rattle.log_replay.specs.Replay.{replayed, nothing_replayed, changes_of}
use Rattle.log_replay.specs.Meaning.{Meaning as ReplayMeaning}
use Rattle.log_replay.specs.Reading.{reading_of as replay_reading_of}
use Rattle.log_trees.specs.Placed.{placed}
use Rattle.log_trees.specs.Changes.{LoggedChange}
use Rattle.log_meaning.specs.Redo.{redone}
use Rattle.log_meaning.specs.Meaning.{Meaning, rows_of}
use Rattle.log_meaning.specs.Reading.{reading_of}

-- whether an entry is a put, a delete or a commit
abbrev pub is_plain : Entry → Bool
is_plain (Put txn db name value) = true
is_plain (Delete txn db name) = true
is_plain (Commit txn) = true
is_plain entry = false

-- a change of a transaction as a replay with one list of pending changes has it
abbrev pub row_change : ℕ → LoggedChange → RowChange
row_change t c = record { txn = t; db = c.db; name = c.name; value = c.written.value }

-- such a replay gives the same records, and the same changes of each transaction wait
abbrev pub ReplayedAlike : Type 0
ReplayedAlike = (log : Log) → AllByRecursion (λ e. is_plain e ≡ true) (entries_of log)
    → ((replayed (entries_of log) nothing_replayed).rows ≡ rows_of (redone 0 (placed log)))
    × ((t : ℕ) → changes_of t (replayed (entries_of log) nothing_replayed).pending ≡ map (row_change t) ((redone 0 (placed log)).pending t))

-- a meaning without what checkpoints and nodes add to it
abbrev pub without_nodes : Result Meaning Corruption → Result ReplayMeaning Corruption
without_nodes (Ok m) = Ok (record { store = m.store; last_txn = m.last_txn; last_db = m.last_db })
without_nodes (Err corruption) = Err corruption

-- and files of such a log are read alike, corruptions and their LSNs included
abbrev pub ReadAlike : Type 0
ReadAlike = (held : List (ℕ × List ℕ)) → AllByRecursion (λ e. is_plain e ≡ true) (entries_of (log_in held)) → without_nodes (reading_of held) ≡ replay_reading_of held
