-- A transaction that ends without a commit.
use Rattle.std.specs.Prelude.{ℕ, ◌≡◌, ◌≤◌, [], if◌then◌else◌, List}
use Rattle.environment.specs.Valid.{fitting}
use Rattle.log_trees.specs.Placed.{Placed}
use Rattle.je_order.specs.declared.txn_id.TxnId.{TxnId}
use Rattle.je_order.specs.Transactions.{is_same_txn}
use Rattle.record_map.specs.Cells.{IsRising}
use Rattle.record_tree.specs.Occupied.{HasChangedAll, after_abort}
use Rattle.log_buffer.specs.Buffer.{IsUnchanged}
use Rattle.in_tree.specs.Observed.{cells_of, has_tree_of, waits_of}
use Rattle.je_answers.specs.declared.active.Active.{Active}
use Rattle.je_answers.specs.Standing.{Standing}
use Rattle.je_answers.specs.After.{ended}
use Rattle.sessions.specs.AtStanding.{AreSessionsAt}
use Rattle.environment.specs.declared.environment.Environment.{Environment}
use Rattle.environment.specs.Written.{first_at, names_at, had_at}

module _ {D : Type 0} where
  -- what a session's transaction wrote was given up, and its locks are gone; nothing was logged
  pub record HasAbandoned (old new : Environment D) (session : ℕ) (txn : TxnId) : Type 0 where
    pub log : IsUnchanged old.engine.trees.log new.engine.trees.log
    pub kept : new.engine.kept ≡ old.engine.kept
    pub cells : HasChangedAll (cells_of old.engine.trees) (cells_of new.engine.trees) (names_at txn old.written.by_txn.entries) after_abort
    pub was_rising : (d : ℕ) → IsRising (cells_of old.engine.trees d)
    pub rising : (d : ℕ) → IsRising (cells_of new.engine.trees d)
    pub has_tree : (d : ℕ) → has_tree_of new.engine.trees d ≡ has_tree_of old.engine.trees d
    pub waits : waits_of new.engine.trees ≤ waits_of old.engine.trees
    pub fits : (es : List Placed) (base : ℕ) → fitting old.engine.trees es base → fitting new.engine.trees es base
    pub names : (t : TxnId) → names_at t new.written.by_txn.entries ≡ (if is_same_txn txn t then [] else names_at t old.written.by_txn.entries)
    pub had : (t : TxnId) → had_at t new.written.by_txn.entries ≡ (if is_same_txn txn t then 0 else had_at t old.written.by_txn.entries)
    pub firsts : (t : TxnId) → first_at t new.written.by_txn.entries ≡ (if is_same_txn txn t then 0 else first_at t old.written.by_txn.entries)
    pub sessions : (st : Standing) (a : Active) → a.session ≡ session → a.txn ≡ txn → AreSessionsAt old.sessions st → AreSessionsAt new.sessions (ended a st)
