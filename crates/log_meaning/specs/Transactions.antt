-- A log that an environment works on, longer by the entries of a transaction that are appended together.
use Rattle.std.specs.Prelude.{◌≡◌, ◌≢◌, ◌≤◌, ◌<◌, ℕ, Bool, true, List, [], ◌∷◌, ◌++◌, Option, None, map}
use Rattle.std.specs.List.{AllByRecursion}
use Rattle.je_order.specs.declared.name.Name.{Name}
use Rattle.je_order.specs.declared.txn_id.TxnId.{TxnId}
use Rattle.store_model.specs.declared.change.Change.{Change}
use Rattle.store_model.specs.declared.store.Store.{Store}
use Rattle.store_model.specs.Store.{all_changed, store_after}
use Rattle.log_entry.specs.declared.entry.Entry.TheVariants.{Commit}
use Rattle.log_replay.specs.Rows.{Rows, data_at, numbers_of, is_environment, store_of, IsRising}
use Rattle.log_trees.specs.Placed.{Placed, AreInOrder}
use Rattle.log_trees.specs.Changes.{Written, LoggedChange, last_of}
use Rattle.log_trees.specs.Laws.{AreBehind}
use Rattle.record_tree.specs.declared.tree_change.TreeChange.{TreeChange}
use Rattle.record_tree.specs.Logged.{LogsChanges, LogsTransaction, last_change, value_changed}
use Rattle.log_meaning.specs.Redo.{redo_all}
use Rattle.log_meaning.specs.Checkpoint.{checkpoint_in, last_end, last_checkpoint}
use Rattle.log_meaning.specs.Stands.{Stands}
use Rattle.log_meaning.specs.Growth.{is_neutral, IsFreeFor}
use Rattle.log_meaning.specs.Recovery.{AreRootsRead, IsRedoLsn, Recovers}

-- ---- entries that are appended

-- entries stand behind an LSN, and their LSNs rise
abbrev pub RiseBehind : ℕ → List Placed → Type 0
RiseBehind next more = AreBehind next more × AreInOrder more

-- the last of their LSNs, this one where there are no entries
abbrev pub last_lsn : ℕ → List Placed → ℕ
last_lsn next [] = next
last_lsn next (p ∷ more) = last_lsn p.0 more

-- what waits of each transaction, behind entries more
abbrev pub waiting : List Placed → (ℕ → List LoggedChange) → ℕ → List LoggedChange
waiting more logged = (redo_all more (record { done = []; pending = logged })).pending

-- no other active transaction has changed a name that one of these changes is of
abbrev pub AreFreeFor : (ℕ → Bool) → (ℕ → List LoggedChange) → TxnId → List TreeChange → Type 0
AreFreeFor is_live logged t changes = AllByRecursion (λ c. IsFreeFor is_live logged t.0 c.db c.name) changes

-- entries that log changes of an active transaction, of names that no other one has changed, behind the last entry so far
pub record AppendsChanges (next : ℕ) (is_live : ℕ → Bool) (logged : ℕ → List LoggedChange) (t : TxnId) (changes : List TreeChange) (more : List Placed) : Type 0 where
  pub live : is_live t.0 ≡ true
  pub free : AreFreeFor is_live logged t changes
  pub logs : LogsChanges t changes (map (λ p. p.1) more)
  pub rise : RiseBehind next more

-- Entries that log the changes of an active transaction and its Commit behind the last entry so far; it has logged nothing before, and no other one has changed its names.
-- In the databases that stay open the records are then as the changes leave them.
pub record AppendsTransaction (next : ℕ) (is_open fewer : ℕ → Bool) (rows after : ℕ → Name → Option (List ℕ)) (is_live : ℕ → Bool) (logged : ℕ → List LoggedChange) (t : TxnId)
    (changes : List TreeChange) (more : List Placed) : Type 0 where
  pub live : is_live t.0 ≡ true
  pub begins : logged t.0 ≡ []
  pub free : AreFreeFor is_live logged t changes
  pub logs : LogsTransaction t changes (map (λ p. p.1) more)
  pub rise : RiseBehind next more
  pub smaller : (d : ℕ) → fewer d ≡ true → is_open d ≡ true
  pub after_is : (d : ℕ) (x : Name) → fewer d ≡ true → after d x ≡ value_changed (last_change d x changes) (rows d x)

-- ---- laws: what stands

-- where no change waits, each name is free
abbrev pub LoneAreFree : Type 0
LoneAreFree = (is_live : ℕ → Bool) (logged : ℕ → List LoggedChange) (t : TxnId) (changes : List TreeChange) → ((u : ℕ) → is_live u ≡ true → logged u ≡ []) → AreFreeFor is_live logged t changes

-- behind each front of a transaction's changes the records are as they were, and the changes so far wait
pub record ChangesWait (es : List Placed) (base next : ℕ) (is_open : ℕ → Bool) (rows : ℕ → Name → Option (List ℕ)) (is_live : ℕ → Bool) (logged : ℕ → List LoggedChange) (t : TxnId)
    (changes : List TreeChange) (more : List Placed) : Type 0 where
  pub fronts : (front rest : List Placed) → front ++ rest ≡ more → Stands (es ++ front) base (last_lsn next front) is_open rows is_live (waiting front logged)
  pub own : (d : ℕ) (x : Name) (w : Written) → (last_of d x (waiting more logged t.0) w).value ≡ value_changed (last_change d x changes) (last_of d x (logged t.0) w).value
  pub others : (u : ℕ) → u ≢ t.0 → waiting more logged u ≡ logged u

abbrev pub ChangesStand : Type 0
ChangesStand = (es : List Placed) (base next : ℕ) (is_open : ℕ → Bool) (rows : ℕ → Name → Option (List ℕ)) (is_live : ℕ → Bool) (logged : ℕ → List LoggedChange) (t : TxnId)
    (changes : List TreeChange) (more : List Placed) → Stands es base next is_open rows is_live logged → AppendsChanges next is_live logged t changes more
    → ChangesWait es base next is_open rows is_live logged t changes more

-- behind each front of a transaction without its Commit the records are as they were; behind the Commit they are as the changes leave them,
-- and of the transaction nothing waits
pub record TransactionStands (es : List Placed) (base next : ℕ) (is_open fewer : ℕ → Bool) (rows after : ℕ → Name → Option (List ℕ)) (is_live : ℕ → Bool) (logged : ℕ → List LoggedChange)
    (more : List Placed) : Type 0 where
  pub fronts : (front rest : List Placed) (p : Placed) → front ++ p ∷ rest ≡ more → Stands (es ++ front) base (last_lsn next front) is_open rows is_live (waiting front logged)
  pub whole : Stands (es ++ more) base (last_lsn next more) fewer after is_live logged

abbrev pub TransactionsStand : Type 0
TransactionsStand = (es : List Placed) (base next : ℕ) (is_open fewer : ℕ → Bool) (rows after : ℕ → Name → Option (List ℕ)) (is_live : ℕ → Bool) (logged : ℕ → List LoggedChange) (t : TxnId)
    (changes : List TreeChange) (more : List Placed) → Stands es base next is_open rows is_live logged → AppendsTransaction next is_open fewer rows after is_live logged t changes more
    → TransactionStands es base next is_open fewer rows after is_live logged more

-- images, a checkpoint's beginning and summaries of files change nothing
abbrev pub NeutralsStand : Type 0
NeutralsStand = (es : List Placed) (base next : ℕ) (is_open : ℕ → Bool) (rows : ℕ → Name → Option (List ℕ)) (is_live : ℕ → Bool) (logged : ℕ → List LoggedChange) (more : List Placed)
    → Stands es base next is_open rows is_live logged → RiseBehind next more → AllByRecursion (λ p. is_neutral p.1 ≡ true) more → Stands (es ++ more) base (last_lsn next more) is_open rows is_live logged

-- what waits of transactions that are not active does not matter
abbrev pub StandsAlike : Type 0
StandsAlike = (es : List Placed) (base next : ℕ) (is_open : ℕ → Bool) (rows : ℕ → Name → Option (List ℕ)) (is_live : ℕ → Bool) (logged alike : ℕ → List LoggedChange)
    → Stands es base next is_open rows is_live logged → ((u : ℕ) → is_live u ≡ true → logged u ≡ alike u) → Stands es base next is_open rows is_live alike

-- ---- laws: what is recovered

-- the last checkpoint of a longer log is that of the log, and its roots are read
pub record KeepsCheckpoint (first : ℕ) (es longer : List Placed) : Type 0 where
  pub last : last_end longer ≡ last_end es
  pub roots : AreRootsRead longer
  pub redo : IsRedoLsn first (last_end longer)

abbrev pub CheckpointsStay : Type 0
CheckpointsStay = (first : ℕ) (es more : List Placed) (next : ℕ) → AreRootsRead es → IsRedoLsn first (last_end es) → (last_checkpoint es).at ≤ next → RiseBehind next more
    → AllByRecursion (λ p. checkpoint_in p.0 p.1 ≡ None) more → KeepsCheckpoint first es (es ++ more)

-- lists of records are those of each open database name by name, and are an environment's
pub record AreListed (is_open : ℕ → Bool) (rows : ℕ → Name → Option (List ℕ)) (kept : Rows) : Type 0 where
  pub rising : (d : ℕ) → IsRising (kept d)
  pub data_is : (d : ℕ) (x : Name) → is_open d ≡ true → data_at x (kept d) ≡ rows d x
  pub catalog : is_open 0 ≡ true
  pub named : AllByRecursion (λ n. is_open n ≡ true) (numbers_of kept)
  pub environment : is_environment kept ≡ true

-- a longer log recovers these transactions, and has the last checkpoint of the log
pub record RecoversLonger (first : ℕ) (opening : Store) (base : ℕ) (transactions : List (List Change)) (es longer : List Placed) : Type 0 where
  pub recovers : Recovers first opening base transactions longer
  pub checkpoint : KeepsCheckpoint first es longer

-- behind each front of changes that are not committed the same is recovered
abbrev pub ChangesRecover : Type 0
ChangesRecover = (first : ℕ) (opening : Store) (found : ℕ) (transactions : List (List Change)) (es : List Placed) (base next : ℕ) (is_open : ℕ → Bool) (rows : ℕ → Name → Option (List ℕ))
    (is_live : ℕ → Bool) (logged : ℕ → List LoggedChange) (t : TxnId) (changes : List TreeChange) (more : List Placed) (kept : Rows)
    → Recovers first opening found transactions es → AreRootsRead es → IsRedoLsn first (last_end es)
    → Stands es base next is_open rows is_live logged → AppendsChanges next is_live logged t changes more
    → AreListed is_open rows kept → store_of kept ≡ store_after opening transactions
    → (front rest : List Placed) → front ++ rest ≡ more → RecoversLonger first opening found transactions es (es ++ front)

-- and so is behind images, a checkpoint's beginning and summaries of files
abbrev pub NeutralsRecover : Type 0
NeutralsRecover = (first : ℕ) (opening : Store) (found : ℕ) (transactions : List (List Change)) (es : List Placed) (base next : ℕ) (is_open : ℕ → Bool) (rows : ℕ → Name → Option (List ℕ))
    (is_live : ℕ → Bool) (logged : ℕ → List LoggedChange) (more : List Placed) (kept : Rows)
    → Recovers first opening found transactions es → AreRootsRead es → IsRedoLsn first (last_end es)
    → Stands es base next is_open rows is_live logged → RiseBehind next more → AllByRecursion (λ p. is_neutral p.1 ≡ true) more
    → AreListed is_open rows kept → store_of kept ≡ store_after opening transactions
    → (front rest : List Placed) → front ++ rest ≡ more → RecoversLonger first opening found transactions es (es ++ front)

-- a Commit of changes that wait: the transaction is recovered
abbrev pub CommitsRecover : Type 0
CommitsRecover = (first : ℕ) (opening : Store) (found : ℕ) (transactions : List (List Change)) (own : List Change) (es : List Placed) (base next at : ℕ) (is_open fewer : ℕ → Bool)
    (rows after : ℕ → Name → Option (List ℕ)) (is_live : ℕ → Bool) (logged : ℕ → List LoggedChange) (t : TxnId) (kept_after : Rows)
    → Recovers first opening found transactions es → AreRootsRead es → IsRedoLsn first (last_end es)
    → Stands es base next is_open rows is_live logged → next < at → is_live t.0 ≡ true
    → ((d : ℕ) → fewer d ≡ true → is_open d ≡ true)
    → ((d : ℕ) (x : Name) → fewer d ≡ true → after d x ≡ (last_of d x (logged t.0) (record { at = 0; value = rows d x })).value)
    → AreListed fewer after kept_after → store_of kept_after ≡ all_changed own (store_after opening transactions)
    → RecoversLonger first opening found (transactions ++ own ∷ []) es (es ++ (at, Commit t) ∷ [])

-- behind each front of a transaction without its Commit the same is recovered; behind the Commit the transaction is
pub record TransactionRecovers (first : ℕ) (opening : Store) (found : ℕ) (transactions : List (List Change)) (own : List Change) (es more : List Placed) : Type 0 where
  pub fronts : (front rest : List Placed) (p : Placed) → front ++ p ∷ rest ≡ more → RecoversLonger first opening found transactions es (es ++ front)
  pub whole : RecoversLonger first opening found (transactions ++ own ∷ []) es (es ++ more)

abbrev pub TransactionsRecover : Type 0
TransactionsRecover = (first : ℕ) (opening : Store) (found : ℕ) (transactions : List (List Change)) (own : List Change) (es : List Placed) (base next : ℕ) (is_open fewer : ℕ → Bool)
    (rows after : ℕ → Name → Option (List ℕ)) (is_live : ℕ → Bool) (logged : ℕ → List LoggedChange) (t : TxnId) (changes : List TreeChange) (more : List Placed) (kept kept_after : Rows)
    → Recovers first opening found transactions es → AreRootsRead es → IsRedoLsn first (last_end es)
    → Stands es base next is_open rows is_live logged → AppendsTransaction next is_open fewer rows after is_live logged t changes more
    → AreListed is_open rows kept → AreListed fewer after kept_after
    → store_of kept ≡ store_after opening transactions → store_of kept_after ≡ all_changed own (store_after opening transactions)
    → TransactionRecovers first opening found transactions own es more
