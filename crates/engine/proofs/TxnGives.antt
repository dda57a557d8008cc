-- What a log gives while transactions are under way, and while none is.
use Rattle.std.proofs.Common.{◌≡◌, ℕ, ◌+◌, ◌≤◌, arith, ◌||◌, Bool, true, false, true≢false, List, [], Option, nat_lt, refl, sym, ap}
use Rattle.std.proofs.lemmas.Bool.{ltb-true}
use Rattle.je_disk.specs.DiskMeaning.{DiskMeaning}
use Rattle.je_order.specs.declared.txn_id.TxnId.{TxnId}
use Rattle.store_model.specs.declared.change.Change.{Change}
use Rattle.store_model.specs.Refusals.{made_by}
use Rattle.log_entry.specs.declared.entry.Entry.{Entry}
use Rattle.log_file.specs.Log.{Log}
use Rattle.log_buffer.specs.declared.buffer.LogBuffer.{LogBuffer}
use Rattle.log_buffer.specs.declared.log_pos.LogPos.{LogPos}
use Rattle.log_replay.specs.Rows.{Rows, data_at}
use Rattle.log_trees.specs.Placed.{placed}
use Rattle.log_meaning.proofs.Appending.{stands_alike}
use Rattle.log_meaning.proofs.Standing.{stands_fewer}
use Rattle.log_replay.proofs.ListLaws.{all_to_map}
use Rattle.log_replay.proofs.StoreLaws.{environment_from, number_of_row}
use Rattle.record_tree.specs.declared.tree_change.TreeChange.{TreeChange}
use Rattle.record_tree.specs.Logged.{IsFront, LogsTransaction}
use Rattle.in_tree.specs.Limits.{GrewFitting, TriedFitting}
use Rattle.txn_log.specs.Own.{OwnChange, is_live}
use Rattle.txn_log.specs.Gives.{GivesRecordsWith}
use Rattle.txn_log.specs.Buffers.{HasAdded, HasFailed}
use Rattle.txn_core.specs.Transactions.{is_gone}
use Rattle.txn_log.specs.Leaves.{LeavesRecords}
use Rattle.engine.specs.Contents.{Contents}
use Rattle.engine.specs.Steps.{HasAppended, HasTried}
use Rattle.engine.proofs.PlannedRows.{LeavesRows}
use Rattle.engine.specs.Environment.{GivesRecords}

-- where nobody is under way, a log that gives records gives them with nobody's changes
unfoldable pub gives_with_none : (log : Log) (end : LogPos) (c : Contents) → GivesRecords log end c → GivesRecordsWith log end c.rows c.last_txn c.last_db (λ t. false) (λ t. [])
gives_with_none log end c gives = record {
  base = gives.base;
  next = gives.next;
  is_open = gives.is_open;
  logged = λ t. [];
  stands = stands_fewer (placed log) gives.base gives.next gives.is_open gives.is_open (λ d x. data_at x (c.rows d)) (λ t. nat_lt c.last_txn t) (is_live c.last_txn (λ t. false)) (λ t. [])
      gives.stands (λ d open_. open_) (λ t live. or_none (nat_lt c.last_txn t) live);
  own_is = λ t active. absurd (true≢false (sym active));
  none = λ t above. refl;
  below = gives.below;
  listed = gives.listed;
  later = gives.later;
  unused = gives.unused;
  numbers = gives.numbers;
} where
  or_none : (b : Bool) → (b || false) ≡ true → b ≡ true
  or_none true is = refl
  or_none false is = is

-- and back, whatever transactions are under way
unfoldable pub gives_alone : (log : Log) (end : LogPos) (c : Contents) (is_active : ℕ → Bool) (own : ℕ → List OwnChange) →
    GivesRecordsWith log end c.rows c.last_txn c.last_db is_active own → GivesRecords log end c
gives_alone log end c is_active own gives = record {
  base = gives.base;
  next = gives.next;
  is_open = gives.is_open;
  stands = stands_alike (placed log) gives.base gives.next gives.is_open (λ d x. data_at x (c.rows d)) (λ t. nat_lt c.last_txn t) gives.logged (λ t. [])
      (stands_fewer (placed log) gives.base gives.next gives.is_open gives.is_open (λ d x. data_at x (c.rows d)) (is_live c.last_txn is_active) (λ t. nat_lt c.last_txn t) gives.logged
      gives.stands (λ d open_. open_) (λ t live. ap (λ (b : Bool). b || is_active t) live))
      (λ t live. gives.none t (ltb-true c.last_txn t live));
  below = gives.below;
  listed = gives.listed;
  later = gives.later;
  unused = gives.unused;
  numbers = gives.numbers;
}

-- ---- entries that fit the log

module _ {D : Type 0} (meaning : DiskMeaning D) where
  -- entries that a log got
  pub added : (old new : LogBuffer D) (AreLogged : List Entry → Type 0) (entries : List Entry) → AreLogged entries → GrewFitting meaning old new entries →
      HasAdded meaning old new AreLogged
  added old new AreLogged entries logs grew = record {
    entries = entries;
    logs = logs;
    grew = grew.grew;
    room = record { max = old.max; entries_are = grew.fits.entries_are; room = grew.fits.room };
  }

  -- and that were tried
  pub failed : (old new : LogBuffer D) (AreLogged : List Entry → Type 0) (entries front : List Entry) → AreLogged entries → IsFront front entries →
      TriedFitting meaning old new front → HasFailed meaning old new AreLogged
  failed old new AreLogged entries front logs is_front tried = record {
    entries = entries;
    front = front;
    logs = logs;
    is_front = is_front;
    tried = tried.tried;
    room = record { max = old.max; entries_are = tried.fits.entries_are; room = tried.fits.room };
  }

  -- a transaction that was appended, and one that was tried
  pub appended_is_added : (old new : LogBuffer D) (t : TxnId) (changes : List TreeChange) → HasAppended meaning old new t changes →
      HasAdded meaning old new (LogsTransaction t changes)
  appended_is_added old new t changes a = record {
    entries = a.entries;
    logs = a.logs;
    grew = a.grew;
    room = record { max = old.max; entries_are = a.fits.entries_are; room = a.fits.room };
  }

  pub tried_is_failed : (old new : LogBuffer D) (t : TxnId) (changes : List TreeChange) → HasTried meaning old new t changes →
      HasFailed meaning old new (LogsTransaction t changes)
  tried_is_failed old new t changes h = record {
    entries = h.entries;
    front = h.front;
    logs = h.logs;
    is_front = h.is_front;
    tried = h.tried;
    room = record { max = old.max; entries_are = h.fits.entries_are; room = h.fits.room };
  }

-- ---- planned changes

-- what planned changes leave of the records
pub leaves_records : (rows after : Rows) (last_db : ℕ) (changes : List Change) (planned : List TreeChange) (dropped : Option ℕ) → LeavesRows rows after last_db changes planned dropped →
    LeavesRecords rows after last_db (last_db + made_by changes) (λ d. is_gone d dropped) planned
leaves_records rows after last_db changes planned dropped leaves = record {
  rising = leaves.sound.rising;
  environment = environment_from after leaves.sound.environment leaves.sound.primaries;
  unused = leaves.sound.unused;
  numbers = all_to_map number_of_row (λ n. n ≤ last_db + made_by changes) (after 0) leaves.sound.numbers;
  grows = omega arith;
  data_is = leaves.data_is;
  within = leaves.within;
  zero_stays = leaves.zero_stays;
  unnamed = leaves.unnamed;
  named = leaves.named;
}
