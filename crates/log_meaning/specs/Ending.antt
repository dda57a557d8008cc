-- A log that an environment works on, longer by a checkpoint's end: it recovers what it did.
use Rattle.std.specs.Prelude.{◌≡◌, ◌≤◌, ◌<◌, ℕ, ◌/◌, ◌^◌, Bool, true, Option, List, [], ◌∷◌, ◌++◌}
use Rattle.std.specs.List.{AllByRecursion}
use Rattle.je_order.specs.declared.name.Name.{Name}
use Rattle.je_order.specs.declared.txn_id.TxnId.{TxnId}
use Rattle.store_model.specs.declared.change.Change.{Change}
use Rattle.store_model.specs.declared.store.Store.{Store}
use Rattle.store_model.specs.Store.{store_after}
use Rattle.log_entry.specs.declared.entry.Entry.TheVariants.{CkptEnd}
use Rattle.log_entry.specs.declared.root.Root.{Root}
use Rattle.log_entry.specs.Items.{rises, root_before}
use Rattle.log_replay.specs.Rows.{Rows, store_of}
use Rattle.log_trees.specs.Placed.{Placed}
use Rattle.log_trees.specs.Changes.{unwritten, LoggedChange, last_of}
use Rattle.log_trees.specs.Trees.{rows_of_roots}
use Rattle.log_trees.specs.Sound.{Home, IsRootAt}
use Rattle.log_meaning.specs.Checkpoint.{last_end}
use Rattle.log_meaning.specs.Stands.{Stands, Covered}
use Rattle.log_meaning.specs.Recovery.{AreRootsRead, IsRedoLsn, Recovers}
use Rattle.log_meaning.specs.Transactions.{AreListed}

-- A checkpoint's end may be logged: the trees of its roots are right, and what they lack is redone, as are the changes of active transactions.
-- What is redone stands in a file from this one on, behind what was found.
pub record MayEnd (first : ℕ) (es : List Placed) (base next at : ℕ) (is_open : ℕ → Bool) (rows : ℕ → Name → Option (List ℕ)) (is_live : ℕ → Bool) (logged : ℕ → List LoggedChange) (redo : ℕ)
    (roots : List Root) : Type 0 where
  pub later : next < at
  pub from : base ≤ redo
  pub upto : redo ≤ next
  pub file : first ≤ redo / 2 ^ 32
  pub covered : Covered es base is_open rows (λ d x. last_of d x (rows_of_roots es at roots) unwritten) redo
  pub own : (t : ℕ) → is_live t ≡ true → AllByRecursion (λ c. redo ≤ c.written.at) (logged t)
  pub home : ℕ → Home
  pub right : AllByRecursion (IsRootAt es home at) roots
  pub rise : rises root_before roots ≡ true

-- the log with it stands, recovers the same transactions, and is read again from it
pub record Ends (first : ℕ) (opening : Store) (found : ℕ) (transactions : List (List Change)) (longer : List Placed) (base at : ℕ) (is_open : ℕ → Bool) (rows : ℕ → Name → Option (List ℕ))
    (is_live : ℕ → Bool) (logged : ℕ → List LoggedChange) : Type 0 where
  pub stands : Stands longer base at is_open rows is_live logged
  pub recovers : Recovers first opening found transactions longer
  pub roots : AreRootsRead longer
  pub redo : IsRedoLsn first (last_end longer)

abbrev pub EndsRecover : Type 0
EndsRecover = (first : ℕ) (opening : Store) (found : ℕ) (transactions : List (List Change)) (es : List Placed) (base next at : ℕ) (is_open : ℕ → Bool) (rows : ℕ → Name → Option (List ℕ))
    (is_live : ℕ → Bool) (logged : ℕ → List LoggedChange) (number start redo : ℕ) (last_txn : TxnId) (last_node last_db : ℕ) (summary : Option ℕ) (roots : List Root) (kept : Rows)
    → Recovers first opening found transactions es → Stands es base next is_open rows is_live logged → MayEnd first es base next at is_open rows is_live logged redo roots
    → AreListed is_open rows kept → store_of kept ≡ store_after opening transactions
    → Ends first opening found transactions (es ++ (at, CkptEnd number start redo last_txn last_node last_db summary roots) ∷ []) base at is_open rows is_live logged
