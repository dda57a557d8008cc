-- A log that an environment works on, one entry longer.
use Rattle.std.specs.Prelude.{◌≡◌, ◌≢◌, ◌≤◌, ◌<◌, ℕ, Bool, true, false, List, [], ◌∷◌, ◌++◌, Option}
use Rattle.std.specs.List.{AllByRecursion}
use Rattle.je_order.specs.declared.name.Name.{Name}
use Rattle.je_order.specs.declared.txn_id.TxnId.{TxnId}
use Rattle.log_entry.specs.declared.entry.Entry.{Entry}
use Rattle.log_entry.specs.declared.entry.Entry.TheVariants.{Put, Delete, Commit, In, Bin, BinDelta, CkptStart, CkptEnd, FileSummary}
use Rattle.log_entry.specs.declared.root.Root.{Root}
use Rattle.log_trees.specs.Placed.{Placed}
use Rattle.log_trees.specs.Changes.{unwritten, LoggedChange, last_of}
use Rattle.log_trees.specs.Trees.{rows_of_roots}
use Rattle.log_meaning.specs.Redo.{pushed, emptied, set_at, unset_at, record_at}
use Rattle.log_meaning.specs.Checkpoint.{last_checkpoint, restarted}
use Rattle.log_meaning.specs.Stands.{has, Stands, Covered}

-- whether an entry changes nothing that is read again: an image, a checkpoint's beginning, or a summary of files
abbrev pub is_neutral : Entry → Bool
is_neutral (In db node level slots) = true
is_neutral (Bin db node slots) = true
is_neutral (BinDelta db node full slots) = true
is_neutral (CkptStart number) = true
is_neutral (FileSummary files) = true
is_neutral entry = false

abbrev pub StandsNeutral : Type 0
StandsNeutral = (es : List Placed) (base next at : ℕ) (is_open : ℕ → Bool) (rows : ℕ → Name → Option (List ℕ)) (is_live : ℕ → Bool) (logged : ℕ → List LoggedChange) (entry : Entry)
    → Stands es base next is_open rows is_live logged → next < at → is_neutral entry ≡ true → Stands (es ++ (at, entry) ∷ []) base at is_open rows is_live logged

-- no other active transaction has changed a name
abbrev pub IsFreeFor : (ℕ → Bool) → (ℕ → List LoggedChange) → ℕ → ℕ → Name → Type 0
IsFreeFor is_live logged t d x = (u : ℕ) → is_live u ≡ true → u ≢ t → has d x (logged u) ≡ false

-- a change of an active transaction, of a name that no other one has changed
abbrev pub StandsPut : Type 0
StandsPut = (es : List Placed) (base next at : ℕ) (is_open : ℕ → Bool) (rows : ℕ → Name → Option (List ℕ)) (is_live : ℕ → Bool) (logged : ℕ → List LoggedChange)
    (t : TxnId) (db : ℕ) (name : Name) (value : List ℕ) → Stands es base next is_open rows is_live logged → next < at → is_live t.0 ≡ true → IsFreeFor is_live logged t.0 db name
    → Stands (es ++ (at, Put t db name value) ∷ []) base at is_open rows is_live (pushed t.0 (set_at at db name value) logged)

abbrev pub StandsDelete : Type 0
StandsDelete = (es : List Placed) (base next at : ℕ) (is_open : ℕ → Bool) (rows : ℕ → Name → Option (List ℕ)) (is_live : ℕ → Bool) (logged : ℕ → List LoggedChange)
    (t : TxnId) (db : ℕ) (name : Name) → Stands es base next is_open rows is_live logged → next < at → is_live t.0 ≡ true → IsFreeFor is_live logged t.0 db name
    → Stands (es ++ (at, Delete t db name) ∷ []) base at is_open rows is_live (pushed t.0 (unset_at at db name) logged)

-- a commit: each name in a database that stays open has what the transaction wrote last
abbrev pub StandsCommit : Type 0
StandsCommit = (es : List Placed) (base next at : ℕ) (is_open fewer : ℕ → Bool) (rows after : ℕ → Name → Option (List ℕ)) (is_live : ℕ → Bool) (logged : ℕ → List LoggedChange) (t : TxnId)
    → Stands es base next is_open rows is_live logged → next < at → is_live t.0 ≡ true
    → ((d : ℕ) → fewer d ≡ true → is_open d ≡ true)
    → ((d : ℕ) (x : Name) → fewer d ≡ true → after d x ≡ (last_of d x (logged t.0) (record { at = 0; value = rows d x })).value)
    → Stands (es ++ (at, Commit t) ∷ []) base at fewer after is_live (emptied t.0 logged)

-- a checkpoint's end: what its roots lack is redone, and so are the changes of active transactions
abbrev pub StandsEnd : Type 0
StandsEnd = (es : List Placed) (base next at : ℕ) (is_open : ℕ → Bool) (rows : ℕ → Name → Option (List ℕ)) (is_live : ℕ → Bool) (logged : ℕ → List LoggedChange)
    (number start redo : ℕ) (last_txn : TxnId) (last_node last_db : ℕ) (summary : Option ℕ) (roots : List Root)
    → Stands es base next is_open rows is_live logged → next < at → base ≤ redo → redo ≤ next
    → Covered es base is_open rows (λ d x. last_of d x (rows_of_roots es at roots) unwritten) redo
    → ((t : ℕ) → is_live t ≡ true → AllByRecursion (λ c. redo ≤ c.written.at) (logged t))
    → Stands (es ++ (at, CkptEnd number start redo last_txn last_node last_db summary roots) ∷ []) base at is_open rows is_live logged

-- transactions end without a commit, and databases are removed
abbrev pub StandsFewer : Type 0
StandsFewer = (es : List Placed) (base next : ℕ) (is_open fewer_open : ℕ → Bool) (rows : ℕ → Name → Option (List ℕ)) (is_live fewer_live : ℕ → Bool) (logged : ℕ → List LoggedChange)
    → Stands es base next is_open rows is_live logged → ((d : ℕ) → fewer_open d ≡ true → is_open d ≡ true) → ((t : ℕ) → fewer_live t ≡ true → is_live t ≡ true)
    → Stands es base next fewer_open rows fewer_live logged

-- a log that was found, whatever is in it: all its entries are below `base`, read again it gives the records, and no change waits whose
-- transaction's number is allocated again
abbrev pub StandsOpen : Type 0
StandsOpen = (es : List Placed) (base : ℕ) (is_open : ℕ → Bool) (rows : ℕ → Name → Option (List ℕ)) (is_live : ℕ → Bool)
    → 0 < base → AllByRecursion (λ p. p.0 < base) es → (last_checkpoint es).redo ≤ base
    → ((d : ℕ) (x : Name) → is_open d ≡ true → (record_at (restarted es) d x).value ≡ rows d x)
    → ((t : ℕ) → is_live t ≡ true → (restarted es).pending t ≡ [])
    → Stands es base base is_open rows is_live (λ t. [])
