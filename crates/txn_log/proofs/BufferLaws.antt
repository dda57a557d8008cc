-- A log buffer whose log gives records while transactions are under way.
use Rattle.std.proofs.Common.{◌≡◌, ℕ, ◌+◌, ◌<◌, ◌⊎◌, inl, inr, Bool, List, [], ◌∷◌, ◌++◌, map, refl, sym, ap, ap₂, subst, ◌∙◌, arith}
use Rattle.std.proofs.lemmas.List.{append-nil, map-append}
use Rattle.je_disk.specs.DiskMeaning.{DiskMeaning}
use Rattle.je_disk.specs.Moments.{now}
use Rattle.je_order.specs.declared.txn_id.TxnId.{TxnId}
use Rattle.je_order.proofs.Lists.{all_weaker}
use Rattle.store_model.specs.declared.change.Change.{Change}
use Rattle.store_model.specs.declared.store.Store.{Store}
use Rattle.store_model.specs.Store.{all_changed}
use Rattle.log_entry.specs.declared.entry.Entry.{Entry}
use Rattle.log_file.specs.Log.{Log, IsLog}
use Rattle.log_buffer.specs.declared.buffer.LogBuffer.{LogBuffer}
use Rattle.log_buffer.specs.declared.log_pos.LogPos.{LogPos}
use Rattle.log_buffer.specs.Buffer.{disk_of, end_of, file_max_of, last_of}
use Rattle.log_buffer.specs.Flip.{pos_lsn}
use Rattle.log_buffer.specs.Growth.{longer}
use Rattle.log_buffer.specs.Laws.{placed_by}
use Rattle.log_buffer.specs.Log.{HasLog}
use Rattle.log_buffer.proofs.GrowthLaws.{appended_are_placed}
use Rattle.log_replay.specs.Rows.{Rows, store_of}
use Rattle.log_trees.specs.Placed.{Placed, placed}
use Rattle.record_tree.specs.declared.tree_change.TreeChange.{TreeChange}
use Rattle.record_tree.specs.Logged.{LogsChanges, LogsTransaction}
use Rattle.log_meaning.specs.Recovery.{Recovers}
use Rattle.log_meaning.specs.Transactions.{RiseBehind, TransactionRecovers, last_lsn}
use Rattle.crash_recovery.specs.Appending.{AreAppendedBehind, HaveRoom}
use Rattle.crash_recovery.specs.Recovery.{RecoversLog}
use Rattle.crash_recovery.proofs.LongerLogs.{longer_is_named, longer_recovers}
use Rattle.crash_recovery.proofs.RisingLsns.{appended_rise}
use Rattle.txn_log.specs.Own.{OwnChange}
use Rattle.txn_log.specs.Growth.{AddsChanges, AddsTransaction}
use Rattle.txn_log.specs.Buffers.{HasFailed, ChangesAreGiven, ChangesAreRecovered, CommitIsRecovered, HasGiven, MayAddChanges, MayCommit, TransactionIsGiven, TriedChangesAreRecovered, TriedCommitIsRecovered}
use Rattle.txn_log.proofs.Giving.{changes_give, transaction_gives}
use Rattle.txn_log.proofs.Recovering.{changes_recover_same, transaction_is_recovered}

abbrev Flags : Type 0
Flags = ℕ → Bool

abbrev Owns : Type 0
Owns = ℕ → List OwnChange

-- ---- entries behind a log

-- entries whose LSNs rise, and others behind them
rise_append : (next : ℕ) (a b : List Placed) → RiseBehind next a → RiseBehind (last_lsn next a) b → RiseBehind next (a ++ b)
rise_append next [] b up rest = rest
rise_append next (p ∷ a) b up rest =
    let inner : RiseBehind p.0 (a ++ b) = rise_append p.0 a b up.1 rest in
    let low : next < p.0 = up.0.0 in
    ((low, all_weaker (λ (q : Placed). p.0 < q.0) (λ q. next < q.0) (λ q h. omega (arith, h, low)) (a ++ b) inner.0), inner)

-- entries at some LSNs behind this one
abbrev placed_behind : ℕ → List Entry → List Placed
placed_behind at [] = []
placed_behind at (e ∷ entries) = (at + 1, e) ∷ placed_behind (at + 1) entries

entries_behind : (at : ℕ) (entries : List Entry) → map (λ p. p.1) (placed_behind at entries) ≡ entries
entries_behind at [] = refl
entries_behind at (e ∷ entries) = ap (λ (l : List Entry). e ∷ l) (entries_behind (at + 1) entries)

rise_behind : (at : ℕ) (entries : List Entry) → RiseBehind at (placed_behind at entries)
rise_behind at [] = (tt, tt)
rise_behind at (e ∷ entries) =
    let inner : RiseBehind (at + 1) (placed_behind (at + 1) entries) = rise_behind (at + 1) entries in
    ((omega arith, all_weaker (λ (q : Placed). at + 1 < q.0) (λ q. at < q.0) (λ q h. omega (arith, h)) (placed_behind (at + 1) entries) inner.0), inner)

-- ---- a buffer's log

module _ {D : Type 0} (meaning : DiskMeaning D) where
  -- the LSNs of entries that the log has room for rise behind it
  pub rises : (buffer : LogBuffer D) (log : Log) (rows : Rows) (last_txn last_db : ℕ) (is_active : Flags) (own : Owns) (entries : List Entry) (h : HasGiven meaning buffer log rows last_txn last_db is_active own) →
      IsLog (longer buffer entries log) → AreAppendedBehind (file_max_of buffer) (end_of buffer) entries h.gives.next
  rises buffer log rows last_txn last_db is_active own entries h long =
      appended_rise log (end_of buffer) (last_of buffer) (file_max_of buffer) entries h.gives.next h.has.is_log h.has.ends long h.gives.below

  pub longer_placed : (buffer : LogBuffer D) (log : Log) (entries : List Entry) → HasLog meaning.observable (now (meaning.history (disk_of buffer))) buffer log →
      placed (longer buffer entries log) ≡ placed log ++ placed_by (file_max_of buffer) (end_of buffer) entries
  longer_placed buffer log entries has = appended_are_placed log (end_of buffer) (last_of buffer) (file_max_of buffer) entries has.is_log has.ends

  -- the first entries, for which the log has room, and others behind them
  record AreInFront (buffer : LogBuffer D) (front rest : List Entry) (next : ℕ) : Type 0 where
    more : List Placed
    is : more ≡ placed_by (file_max_of buffer) (end_of buffer) front ++ placed_behind (last_lsn next (placed_by (file_max_of buffer) (end_of buffer) front)) rest
    entries_are : map (λ p. p.1) more ≡ front ++ rest
    rise : RiseBehind next more

  in_front : (buffer : LogBuffer D) (log : Log) (rows : Rows) (last_txn last_db : ℕ) (is_active : Flags) (own : Owns) (front rest : List Entry)
      (h : HasGiven meaning buffer log rows last_txn last_db is_active own) (first : ℕ) (opening : Store) (found : ℕ) (transactions : List (List Change)) →
      HaveRoom (file_max_of buffer) (end_of buffer) front → RecoversLog first opening found transactions log → AreInFront buffer front rest h.gives.next
  in_front buffer log rows last_txn last_db is_active own front rest h first opening found transactions room recovers =
      let most : ℕ = file_max_of buffer in
      let end : LogPos = end_of buffer in
      let own_placed : List Placed = placed_by most end front in
      let at : ℕ = last_lsn h.gives.next own_placed in
      let long = longer_is_named log end (last_of buffer) most front recovers.named h.has.ends room in
      let rise = rises buffer log rows last_txn last_db is_active own front h long.named.is_log in
      record {
        more = own_placed ++ placed_behind at rest;
        is = refl;
        entries_are = map-append (λ (p : Placed). p.1) own_placed (placed_behind at rest) ∙ ap₂ (λ (a b : List Entry). a ++ b) rise.entries_are (entries_behind at rest);
        rise = rise_append h.gives.next own_placed (placed_behind at rest) rise.rise (rise_behind at rest);
      }

  -- ---- changes of a transaction

  pub adds_changes : (last_txn next : ℕ) (is_active : Flags) (own : Owns) (t : TxnId) (changes : List TreeChange) (more : List Placed) → MayAddChanges last_txn is_active own t changes →
      LogsChanges t changes (map (λ p. p.1) more) → RiseBehind next more → AddsChanges next last_txn is_active own t changes more
  adds_changes last_txn next is_active own t changes more may logs rise = record { active = may.active; drawn = may.drawn; free = may.free; logs = logs; rise = rise }

  changes_recovered : (buffer : LogBuffer D) (log : Log) (rows : Rows) (last_txn last_db : ℕ) (is_active : Flags) (own : Owns) (t : TxnId) (changes : List TreeChange) (front rest : List Entry)
      (first : ℕ) (opening : Store) (found : ℕ) (transactions : List (List Change)) →
      HasGiven meaning buffer log rows last_txn last_db is_active own → MayAddChanges last_txn is_active own t changes → LogsChanges t changes (front ++ rest) →
      HaveRoom (file_max_of buffer) (end_of buffer) front → RecoversLog first opening found transactions log → RecoversLog first opening found transactions (longer buffer front log)
  changes_recovered buffer log rows last_txn last_db is_active own t changes front rest first opening found transactions h may logs room is =
      let parts = in_front buffer log rows last_txn last_db is_active own front rest h first opening found transactions room is in
      let most : ℕ = file_max_of buffer in
      let end : LogPos = end_of buffer in
      longer_recovers first opening found transactions transactions log end (last_of buffer) most front is h.has.ends room
      (changes_recover_same log end rows last_txn last_db is_active own t changes parts.more first opening found transactions h.gives
      (adds_changes last_txn h.gives.next is_active own t changes parts.more may (subst (LogsChanges t changes) (sym parts.entries_are) logs) parts.rise) is.recovers
      (placed_by most end front) (placed_behind (last_lsn h.gives.next (placed_by most end front)) rest) (sym parts.is))

  -- ---- a commit

  pub adds_transaction : (last_txn next : ℕ) (is_active : Flags) (own : Owns) (rows after : Rows) (last_db later_db : ℕ) (goes : Flags) (t : TxnId) (had : List OwnChange) (changes : List TreeChange) (more : List Placed) →
      MayCommit last_txn is_active own rows after last_db later_db goes t had changes → LogsTransaction t changes (map (λ p. p.1) more) → RiseBehind next more →
      AddsTransaction next last_txn is_active own rows after last_db later_db goes t had changes more
  adds_transaction last_txn next is_active own rows after last_db later_db goes t had changes more may logs rise =
      record { has = may.has; free = may.free; logs = logs; rise = rise; leaves = may.leaves }

  record IsRecoveredInFront (buffer : LogBuffer D) (log : Log) (next : ℕ) (front rest : List Entry) (first : ℕ) (opening : Store) (found : ℕ) (transactions : List (List Change)) (committed : List Change) : Type 0 where
    recovers : TransactionRecovers first opening found transactions committed (placed log)
        (placed_by (file_max_of buffer) (end_of buffer) front ++ placed_behind (last_lsn next (placed_by (file_max_of buffer) (end_of buffer) front)) rest)

  commit_in_front : (buffer : LogBuffer D) (log : Log) (rows after : Rows) (last_txn last_db later_db : ℕ) (is_active : Flags) (own : Owns) (goes : Flags) (t : TxnId) (had : List OwnChange) (changes : List TreeChange)
      (committed : List Change) (front rest : List Entry) (first : ℕ) (opening : Store) (found : ℕ) (transactions : List (List Change)) →
      (h : HasGiven meaning buffer log rows last_txn last_db is_active own) → MayCommit last_txn is_active own rows after last_db later_db goes t had changes →
      store_of after ≡ all_changed committed (store_of rows) → LogsTransaction t changes (front ++ rest) →
      HaveRoom (file_max_of buffer) (end_of buffer) front → RecoversLog first opening found transactions log → IsRecoveredInFront buffer log h.gives.next front rest first opening found transactions committed
  commit_in_front buffer log rows after last_txn last_db later_db is_active own goes t had changes committed front rest first opening found transactions h may store logs room is =
      let parts = in_front buffer log rows last_txn last_db is_active own front rest h first opening found transactions room is in
      record {
        recovers = subst (TransactionRecovers first opening found transactions committed (placed log)) parts.is
            (transaction_is_recovered log (end_of buffer) rows after last_txn last_db later_db is_active own goes t had changes parts.more first opening found transactions committed h.gives
            (adds_transaction last_txn h.gives.next is_active own rows after last_db later_db goes t had changes parts.more may (subst (LogsTransaction t changes) (sym parts.entries_are) logs) parts.rise)
            store is.recovers);
      }

  commit_recovered : (buffer : LogBuffer D) (log : Log) (rows after : Rows) (last_txn last_db later_db : ℕ) (is_active : Flags) (own : Owns) (goes : Flags) (t : TxnId) (had : List OwnChange) (changes : List TreeChange)
      (committed : List Change) (entries : List Entry) (first : ℕ) (opening : Store) (found : ℕ) (transactions : List (List Change)) →
      HasGiven meaning buffer log rows last_txn last_db is_active own → MayCommit last_txn is_active own rows after last_db later_db goes t had changes →
      store_of after ≡ all_changed committed (store_of rows) → LogsTransaction t changes entries →
      HaveRoom (file_max_of buffer) (end_of buffer) entries → RecoversLog first opening found transactions log → RecoversLog first opening found (transactions ++ committed ∷ []) (longer buffer entries log)
  commit_recovered buffer log rows after last_txn last_db later_db is_active own goes t had changes committed entries first opening found transactions h may store logs room is =
      let whole = commit_in_front buffer log rows after last_txn last_db later_db is_active own goes t had changes committed entries [] first opening found transactions h may store
      (subst (LogsTransaction t changes) (sym (append-nil entries)) logs) room is in
      let own_placed : List Placed = placed_by (file_max_of buffer) (end_of buffer) entries in
      longer_recovers first opening found transactions (transactions ++ committed ∷ []) log (end_of buffer) (last_of buffer) (file_max_of buffer) entries is h.has.ends room
      (subst (λ (l : List Placed). Recovers first opening found (transactions ++ committed ∷ []) (placed log ++ l)) (append-nil own_placed) whole.recovers.whole.recovers)

  unfoldable pub changes_are_given : ChangesAreGiven meaning
  changes_are_given old new log rows last_txn last_db is_active own t changes h may a =
      let longer_has : HasLog meaning.observable (now (meaning.history (disk_of new))) new (longer old a.entries log) = a.grew.log log h.has in
      let rise = rises old log rows last_txn last_db is_active own a.entries h longer_has.is_log in
      let more : List Placed = placed_by (file_max_of old) (end_of old) a.entries in
      record {
        has = longer_has;
        gives = changes_give log (end_of old) rows last_txn last_db is_active own t changes more (longer old a.entries log) (end_of new) h.gives
            (adds_changes last_txn h.gives.next is_active own t changes more may (subst (LogsChanges t changes) (sym rise.entries_are) a.logs) rise.rise)
            (longer_placed old log a.entries h.has) (subst (λ (e : LogPos). last_lsn h.gives.next more < pos_lsn e) (sym a.grew.end) rise.below);
      }

  pub changes_are_recovered : ChangesAreRecovered meaning
  changes_are_recovered old new log rows last_txn last_db is_active own t changes first opening found transactions h may a is =
      changes_recovered old log rows last_txn last_db is_active own t changes a.entries [] first opening found transactions h may (subst (LogsChanges t changes) (sym (append-nil a.entries)) a.logs) a.room is

  pub tried_changes_are_recovered : TriedChangesAreRecovered meaning
  tried_changes_are_recovered old new log rows last_txn last_db is_active own t changes first opening found transactions h may f is =
      changes_recovered old log rows last_txn last_db is_active own t changes f.front f.is_front.0 first opening found transactions h may
      (subst (LogsChanges t changes) (sym f.is_front.1) f.logs) f.room is

  unfoldable pub transaction_is_given : TransactionIsGiven meaning
  transaction_is_given old new log rows after last_txn last_db later_db is_active own goes t had changes h may a =
      let longer_has : HasLog meaning.observable (now (meaning.history (disk_of new))) new (longer old a.entries log) = a.grew.log log h.has in
      let rise = rises old log rows last_txn last_db is_active own a.entries h longer_has.is_log in
      let more : List Placed = placed_by (file_max_of old) (end_of old) a.entries in
      record {
        has = longer_has;
        gives = transaction_gives log (end_of old) rows after last_txn last_db later_db is_active own goes t had changes more (longer old a.entries log) (end_of new) h.gives
            (adds_transaction last_txn h.gives.next is_active own rows after last_db later_db goes t had changes more may (subst (LogsTransaction t changes) (sym rise.entries_are) a.logs) rise.rise)
            (longer_placed old log a.entries h.has) (subst (λ (e : LogPos). last_lsn h.gives.next more < pos_lsn e) (sym a.grew.end) rise.below);
      }

  pub commit_is_recovered : CommitIsRecovered meaning
  commit_is_recovered old new log rows after last_txn last_db later_db is_active own goes t had changes committed first opening found transactions h may store a is =
      commit_recovered old log rows after last_txn last_db later_db is_active own goes t had changes committed a.entries first opening found transactions h may store a.logs a.room is

  -- where the disk failed: the transaction is not recovered, whatever was, or it is
  pub tried_commit_decided : (old new : LogBuffer D) (rows after : Rows) (last_txn last_db later_db : ℕ) (is_active : Flags) (own : Owns) (goes : Flags) (t : TxnId) (had : List OwnChange) (changes : List TreeChange)
      (committed : List Change) → MayCommit last_txn is_active own rows after last_db later_db goes t had changes → store_of after ≡ all_changed committed (store_of rows) →
      (f : HasFailed meaning old new (LogsTransaction t changes)) →
      ((log : Log) → HasGiven meaning old log rows last_txn last_db is_active own → (first : ℕ) (opening : Store) (found : ℕ) (transactions : List (List Change)) →
      RecoversLog first opening found transactions log → RecoversLog first opening found transactions (longer old f.front log))
      ⊎ ((log : Log) → HasGiven meaning old log rows last_txn last_db is_active own → (first : ℕ) (opening : Store) (found : ℕ) (transactions : List (List Change)) →
      RecoversLog first opening found transactions log → RecoversLog first opening found (transactions ++ committed ∷ []) (longer old f.front log))
  tried_commit_decided old new rows after last_txn last_db later_db is_active own goes t had changes committed may store f = by_rest f.is_front.0 f.is_front.1
    where
      by_rest : (rest : List Entry) → f.front ++ rest ≡ f.entries →
          ((log : Log) → HasGiven meaning old log rows last_txn last_db is_active own → (first : ℕ) (opening : Store) (found : ℕ) (transactions : List (List Change)) →
          RecoversLog first opening found transactions log → RecoversLog first opening found transactions (longer old f.front log))
          ⊎ ((log : Log) → HasGiven meaning old log rows last_txn last_db is_active own → (first : ℕ) (opening : Store) (found : ℕ) (transactions : List (List Change)) →
          RecoversLog first opening found transactions log → RecoversLog first opening found (transactions ++ committed ∷ []) (longer old f.front log))
      by_rest [] parts = inr
          (λ log h first opening found transactions is.
          commit_recovered old log rows after last_txn last_db later_db is_active own goes t had changes committed f.front first opening found transactions h may store
          (subst (LogsTransaction t changes) (sym parts ∙ append-nil f.front) f.logs) f.room is)
      by_rest (e ∷ rest) parts = inl
          (λ log h first opening found transactions is.
          let own_placed : List Placed = placed_by (file_max_of old) (end_of old) f.front in
          let at : ℕ = last_lsn h.gives.next own_placed in
          let recovery = commit_in_front old log rows after last_txn last_db later_db is_active own goes t had changes committed f.front (e ∷ rest) first opening found transactions h may store
          (subst (LogsTransaction t changes) (sym parts) f.logs) f.room is in
          longer_recovers first opening found transactions transactions log (end_of old) (last_of old) (file_max_of old) f.front is h.has.ends f.room
          (recovery.recovers.fronts own_placed (placed_behind (at + 1) rest) (at + 1, e) refl).recovers)

  pub tried_commit_is_recovered : TriedCommitIsRecovered meaning
  tried_commit_is_recovered old new log rows after last_txn last_db later_db is_active own goes t had changes committed first opening found transactions h may store f is =
      by_case (tried_commit_decided old new rows after last_txn last_db later_db is_active own goes t had changes committed may store f)
    where
      by_case : ((l : Log) → HasGiven meaning old l rows last_txn last_db is_active own → (x : ℕ) (o : Store) (b : ℕ) (ts : List (List Change)) →
          RecoversLog x o b ts l → RecoversLog x o b ts (longer old f.front l))
          ⊎ ((l : Log) → HasGiven meaning old l rows last_txn last_db is_active own → (x : ℕ) (o : Store) (b : ℕ) (ts : List (List Change)) →
          RecoversLog x o b ts l → RecoversLog x o b (ts ++ committed ∷ []) (longer old f.front l)) →
          RecoversLog first opening found transactions (longer old f.front log) ⊎ RecoversLog first opening found (transactions ++ committed ∷ []) (longer old f.front log)
      by_case (inl less) = inl (less log h first opening found transactions is)
      by_case (inr all) = inr (all log h first opening found transactions is)
