-- Redo: reading the entries of a log again from an LSN on. A transaction's changes count from its commit on.
use Rattle.std.specs.Prelude.{ℕ, ◌==◌, nat_le, if◌then◌else◌, List, [], ◌∷◌, ◌++◌, None, Some, filter}
use Rattle.je_order.specs.declared.name.Name.{Name}
use Rattle.log_entry.specs.declared.entry.Entry.{Entry}
use Rattle.log_entry.specs.declared.entry.Entry.TheVariants.{Put, Delete, Migrated, Commit}
use Rattle.log_trees.specs.Placed.{Placed}
use Rattle.log_trees.specs.Changes.{Written, unwritten, LoggedChange, last_of}

-- what a redo has so far: the committed changes in the order of their commits, and each transaction's changes that wait for its commit
pub record Redo : Type 0 where
  pub done : List LoggedChange
  pub pending : ℕ → List LoggedChange

-- a redo that begins
abbrev pub nothing_redone : Redo
nothing_redone = record { done = []; pending = λ txn. [] }

-- one more change of a transaction waits
abbrev pub pushed : ℕ → LoggedChange → (ℕ → List LoggedChange) → ℕ → List LoggedChange
pushed txn change pending t = if txn == t then pending t ++ change ∷ [] else pending t

-- none of a transaction's changes waits any longer
abbrev pub emptied : ℕ → (ℕ → List LoggedChange) → ℕ → List LoggedChange
emptied txn pending t = if txn == t then [] else pending t

-- a put at an LSN as a change, and a delete
abbrev pub set_at : ℕ → ℕ → Name → List ℕ → LoggedChange
set_at at db name value = record { db = db; name = name; written = record { at = at; value = Some value } }

-- a delete at an LSN, as a change
abbrev pub unset_at : ℕ → ℕ → Name → LoggedChange
unset_at at db name = record { db = db; name = name; written = record { at = at; value = None } }

-- a redo after one more entry; a migrated record counts at its own place, and entries of the other kinds change no record
abbrev pub redo_entry : ℕ → Entry → Redo → Redo
redo_entry at (Put txn db name value) redo = record { done = redo.done; pending = pushed txn.0 (set_at at db name value) redo.pending }
redo_entry at (Delete txn db name) redo = record { done = redo.done; pending = pushed txn.0 (unset_at at db name) redo.pending }
redo_entry at (Migrated db name value) redo = record { done = redo.done ++ set_at at db name value ∷ []; pending = redo.pending }
redo_entry at (Commit txn) redo = record { done = redo.done ++ redo.pending txn.0; pending = emptied txn.0 redo.pending }
redo_entry at entry redo = redo

-- a redo after entries, in order
abbrev pub redo_all : List Placed → Redo → Redo
redo_all [] redo = redo
redo_all (p ∷ es) redo = redo_all es (redo_entry p.0 p.1 redo)

-- the entries from an LSN on
abbrev pub from : ℕ → List Placed → List Placed
from r es = filter (λ p. nat_le r p.0) es

-- the redo of a log from an LSN on
abbrev pub redone : ℕ → List Placed → Redo
redone r es = redo_all (from r es) nothing_redone

-- what stands under a name after the committed changes
abbrev pub record_at : Redo → ℕ → Name → Written
record_at redo d x = last_of d x redo.done unwritten

-- the last committed change of a name from an LSN on
abbrev pub newest : ℕ → List Placed → ℕ → Name → Written
newest base es d x = record_at (redone base es) d x
