-- What the log gets from a change of a tree.
use Rattle.std.specs.Prelude.{◌≡◌, ◌==◌, ◌&&◌, ◌*◌, ℕ, Bool, true, false, if◌then◌else◌, List, [], ◌∷◌, ◌++◌, Option, Some, None, Result, Ok, Err, find, reverse}
use Rattle.std.specs.List.{AllByRecursion, list_any}
use Rattle.std.specs.Ordering.{is_eq}
use Rattle.je_order.specs.Order.{name_cmp}
use Rattle.je_order.specs.declared.name.Name.{Name}
use Rattle.je_order.specs.declared.txn_id.TxnId.{TxnId}
use Rattle.log_entry.specs.declared.entry.Entry.{Entry}
use Rattle.log_entry.specs.declared.entry.Entry.TheVariants.{Put, Delete, Commit, In, Bin}
use Rattle.record_tree.specs.declared.tree_change.TreeChange.{TreeChange}
use Rattle.record_tree.specs.declared.tree_err.TreeErr.{TreeErr}
use Rattle.record_tree.specs.declared.tree_err.TreeErr.TheVariants.{Fault, Full, IdsEnded, Memory}

-- the entry of a change: a Put, or a Delete where the record goes
abbrev pub entry_for : TxnId → ℕ → Name → Option (List ℕ) → Entry
entry_for txn db name (Some value) = Put txn db name value
entry_for txn db name None = Delete txn db name

-- an image of a node
abbrev pub IsImage : Entry → Type 0
IsImage (In db node level slots) = Unit {0}
IsImage (Bin db node slots) = Unit {0}
IsImage entry = ⊥

-- whether an entry is one
abbrev pub is_image : Entry → Bool
is_image (In db node level slots) = true
is_image (Bin db node slots) = true
is_image entry = false

-- the LSN of the first of some entries with their LSNs that is no image of a node
abbrev pub first_change : List (ℕ × Entry) → Option ℕ
first_change [] = None
first_change (p ∷ entries) = if is_image p.1 then first_change entries else Some p.0

-- images of nodes
abbrev pub AreImages : List Entry → Type 0
AreImages entries = AllByRecursion IsImage entries

-- entries log changes of a transaction, in order, each behind images of nodes
abbrev pub LogsChanges : TxnId → List TreeChange → List Entry → Type 0
LogsChanges txn [] entries = entries ≡ []
LogsChanges txn (c ∷ cs) entries = (images rest : List Entry) × AreImages images × (entries ≡ images ++ entry_for txn c.db c.name c.value ∷ rest) × LogsChanges txn cs rest

-- and its Commit behind them
abbrev pub LogsTransaction : TxnId → List TreeChange → List Entry → Type 0
LogsTransaction txn changes entries = (front : List Entry) × LogsChanges txn changes front × (entries ≡ front ++ Commit txn ∷ [])

-- how many entries so many changes log at most, besides images of nodes that waited for them: for each change its own, the images of two halves on
-- each of 64 levels, and that of a new root
abbrev pub most_entries : ℕ → ℕ
most_entries changes = 130 * changes

-- whether a change is of a name
abbrev pub is_change_of : ℕ → Name → TreeChange → Bool
is_change_of db x c = (c.db == db) && is_eq (name_cmp c.name x)

-- the last of some changes that is of a name
abbrev pub last_change : ℕ → Name → List TreeChange → Option TreeChange
last_change db x changes = find (is_change_of db x) (reverse changes)

-- whether a change makes a database of that number
abbrev pub makes_db : ℕ → Option ℕ → Bool
makes_db db None = false
makes_db db (Some made) = made == db

abbrev pub is_made : ℕ → List TreeChange → Bool
is_made db changes = list_any (λ c. makes_db db c.makes) changes

-- the data under a name after changes
abbrev pub value_changed : Option TreeChange → Option (List ℕ) → Option (List ℕ)
value_changed None value = value
value_changed (Some c) value = c.value

-- a front of some entries
abbrev pub IsFront : List Entry → List Entry → Type 0
IsFront front entries = (rest : List Entry) × (front ++ rest ≡ entries)

-- what holds where a call ended for a reason
abbrev pub IsEndOf : {T : Type 0} → TreeErr → Result T TreeErr → Type 0 → Type 0
IsEndOf reason (Ok x) P = Unit {0}
IsEndOf reason (Err e) P = e ≡ reason → P

-- a limit: the log is full, or the numbers ended
abbrev pub IsLimit : TreeErr → Type 0
IsLimit Full = Unit {0}
IsLimit IdsEnded = Unit {0}
IsLimit Fault = ⊥
IsLimit Memory = ⊥

-- a reason that leaves all as it was: any but a fault
abbrev pub IsUndone : TreeErr → Type 0
IsUndone Fault = ⊥
IsUndone error = Unit {0}
