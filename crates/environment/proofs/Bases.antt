-- Where this life of an environment began; what of a valid environment stays where its log gets entries; and trees that fit what others fitted.
use Rattle.std.proofs.Common.{◌≡◌, ℕ, ◌-◌, ◌<◌, ◌≤◌, nat_le, Bool, true, false, cond, List, [], ◌∷◌, ◌++◌, Option, Some, unwrap_or, refl, ap, sym, subst, ◌∙◌, arith}
use Rattle.std.specs.Prelude.{◌≢◌}
use Rattle.std.specs.List.{AllByRecursion}
use Rattle.std.proofs.lemmas.Bool.{cond-true, le-leb}
use Rattle.std.proofs.lemmas.List.Elements.{filter-append}
use Rattle.je_disk.specs.DiskMeaning.{DiskMeaning}
use Rattle.je_disk.specs.States.{State}
use Rattle.je_disk.specs.Moments.{now}
use Rattle.je_order.specs.declared.txn_id.TxnId.{TxnId}
use Rattle.je_order.proofs.Lists.{all_weaker}
use Rattle.store_model.specs.declared.record_change.RecordChange.{RecordChange}
use Rattle.je_answers.specs.Standing.{Standing}
use Rattle.log_entry.specs.Encoding.{size_of}
use Rattle.log_entry.specs.declared.entry.Entry.{Entry}
use Rattle.log_file.specs.Log.{IsLog, Log}
use Rattle.log_buffer.specs.declared.buffer.LogBuffer.{LogBuffer}
use Rattle.log_buffer.specs.declared.log_pos.LogPos.{LogPos}
use Rattle.log_buffer.specs.Buffer.{disk_of, end_of, file_max_of, last_of}
use Rattle.log_buffer.specs.Flip.{end_after, pos_lsn}
use Rattle.log_buffer.specs.Growth.{Grew, longer}
use Rattle.log_buffer.specs.Laws.{placed_by}
use Rattle.log_buffer.specs.Log.{HasLog}
use Rattle.log_replay.specs.Rows.{Rows}
use Rattle.log_trees.specs.Placed.{Placed, placed}
use Rattle.log_trees.specs.Changes.{LoggedChange}
use Rattle.log_meaning.specs.Redo.{redone, from as entries_from}
use Rattle.log_meaning.specs.Transactions.{RiseBehind, last_lsn, waiting}
use Rattle.log_meaning.proofs.Appending.{waiting-append}
use Rattle.crash_recovery.specs.Appending.{AreAppendedBehind}
use Rattle.crash_recovery.proofs.RisingLsns.{appended_rise, logs_lie_below}
use Rattle.record_tree.specs.declared.tree_change.TreeChange.{TreeChange}
use Rattle.record_tree.specs.Logged.{entry_for, first_change, LogsChanges}
use Rattle.record_tree.specs.Occupied.{AllCells}
use Rattle.in_tree.specs.Logging.{first_in}
use Rattle.in_tree.proofs.Written.{change_first, is_change}
use Rattle.txn_log.specs.Checkpoints.{AreNoEnds, EndsFrom}
use Rattle.txn_log.specs.Gives.{GivesRecordsWith}
use Rattle.txn_log.proofs.BufferLaws.{longer_placed}
use Rattle.txn_log.proofs.RedoLsns.{ends_from_stays, waits_from}
use Rattle.standing_laws.specs.Right.{txn_id}
use Rattle.environment.specs.declared.written.OwnNames.{OwnNames}
use Rattle.environment.specs.Valid.{Forest, IsValidWith, Lives, waiting_in}
use Rattle.environment.specs.Written.{AreFirstsOf, IsFirstIn, first_at, names_at}
use Rattle.environment.proofs.Firsts.{AreFewer, IsFirst, IsNoCommitOf, first_waits, firsts_fewer, waits_first}

-- it began at or before the log's end
pub begun_with : (log : Log) (end : LogPos) (rows : Rows) (last_txn last_db : ℕ) (is_active : ℕ → Bool) (own : ℕ → List (ℕ × RecordChange)) (gives : GivesRecordsWith log end rows last_txn last_db is_active own) →
    gives.base ≤ pos_lsn end
begun_with log end rows last_txn last_db is_active own gives = let low = gives.stands.begun in let below = gives.below in omega (arith, low, below)

-- ---- entries that are logged

-- entries at rising LSNs behind one end at it or behind it
last_rises : (next : ℕ) (more : List Placed) → RiseBehind next more → next ≤ last_lsn next more
last_rises next [] up = omega arith
last_rises next (p ∷ more) up = let rest = last_rises p.0 more up.1 in let low = up.0.0 in omega (arith, rest, low)

-- some of entries that stand at an LSN or behind it
some_from : (bound base : ℕ) (more : List Placed) → AllByRecursion (λ p. bound ≤ p.0) more → AllByRecursion (λ p. bound ≤ p.0) (entries_from base more)
some_from bound base [] all = tt
some_from bound base (p ∷ more) all = by_test (nat_le base p.0) (some_from bound base more all.1)
  where
    by_test : (b : Bool) → AllByRecursion (λ q. bound ≤ q.0) (entries_from base more) → AllByRecursion (λ q. bound ≤ q.0) (cond b (p ∷ entries_from base more) (entries_from base more))
    by_test true rest = (all.0, rest)
    by_test false rest = rest

-- of those and of all that are placed
all_kept : (P : Entry → Type 0) (base : ℕ) (more : List Placed) → AllByRecursion (λ p. P p.1) more → AllByRecursion (λ p. P p.1) (entries_from base more)
all_kept P base [] all = tt
all_kept P base (p ∷ more) all = by_test (nat_le base p.0) (all_kept P base more all.1)
  where
    by_test : (b : Bool) → AllByRecursion (λ q. P q.1) (entries_from base more) → AllByRecursion (λ q. P q.1) (cond b (p ∷ entries_from base more) (entries_from base more))
    by_test true rest = (all.0, rest)
    by_test false rest = rest

all_placed : (P : Entry → Type 0) (most : ℕ) (end : LogPos) (entries : List Entry) → AllByRecursion P entries → AllByRecursion (λ p. P p.1) (placed_by most end entries)
all_placed P most end [] all = tt
all_placed P most end (e ∷ entries) all = (all.0, all_placed P most (end_after most end (size_of e)) entries all.1)

from_all : (base : ℕ) (more : List Placed) → AllByRecursion (λ p. base ≤ p.0) more → entries_from base more ≡ more
from_all base [] all = refl
from_all base (p ∷ more) all = cond-true (nat_le base p.0) (p ∷ entries_from base more) (entries_from base more) (le-leb base p.0 all.0) ∙ ap (λ (l : List Placed). p ∷ l) (from_all base more all.1)

-- what waits in a longer log
waiting_more : (base : ℕ) (es more : List Placed) → (redone base (es ++ more)).pending ≡ waiting (entries_from base more) (redone base es).pending
waiting_more base es more =
    ap (λ (l : List Placed). waiting l (λ t. [])) (filter-append (λ (p : Placed). nat_le base p.0) es more) ∙ waiting-append (entries_from base es) (entries_from base more) (λ t. [])

module _ {D : Type 0} (meaning : DiskMeaning D) where
  -- entries that are logged stand at the log's end or behind it
  pub behind_end : (old : LogBuffer D) (log : Log) (entries : List Entry) → HasLog meaning.observable (now (meaning.history (disk_of old))) old log → IsLog (longer old entries log) →
      AllByRecursion (λ p. pos_lsn (end_of old) ≤ p.0) (placed_by (file_max_of old) (end_of old) entries)
  behind_end old log entries has long =
      let some : 0 < pos_lsn (end_of old) - 1 = (logs_lie_below log (end_of old) (last_of old) has.is_log has.ends).some in
      let rise = appended_rise log (end_of old) (last_of old) (file_max_of old) entries (pos_lsn (end_of old) - 1) has.is_log has.ends long (omega (arith, some)) in
      all_weaker (λ (p : Placed). pos_lsn (end_of old) - 1 < p.0) (λ p. pos_lsn (end_of old) ≤ p.0) (λ p h. omega (arith, h, some)) (placed_by (file_max_of old) (end_of old) entries) rise.rise.0

  -- the first LSN of a transaction stays that one
  pub firsts_grow : (old : LogBuffer D) (log : Log) (entries : List Entry) (base end : ℕ) (written : List (TxnId × OwnNames)) → HasLog meaning.observable (now (meaning.history (disk_of old))) old log →
      IsLog (longer old entries log) → pos_lsn (end_of old) ≤ end → ((t : ℕ) → names_at (txn_id t) written ≢ [] → AllByRecursion (IsNoCommitOf t) entries) → AreFirstsOf written (waiting_in log base) (pos_lsn (end_of old)) → AreFirstsOf written (waiting_in (longer old entries log) base) end
  firsts_grow old log entries base end written has long later none firsts = record {
    is = λ t named.
        let first : ℕ = first_at (txn_id t) written in
        subst (λ (pending : ℕ → List LoggedChange). IsFirstIn (pending t) first)
        (sym (ap (λ (es : List Placed). (redone base es).pending) (longer_placed meaning old log entries has) ∙ waiting_more base (placed log) more))
        (waits_first t first (entries_from base more) (waiting_in log base) (all_kept (IsNoCommitOf t) base more (all_placed (IsNoCommitOf t) (file_max_of old) (end_of old) entries (none t named))) (firsts.is t named));
    before = λ t.
        let first : ℕ = first_at (txn_id t) written in
        let low : first ≤ pos_lsn (end_of old) = firsts.reached t in
        subst (λ (pending : ℕ → List LoggedChange). AllByRecursion (λ c. first ≤ c.written.at) (pending t))
        (sym (ap (λ (es : List Placed). (redone base es).pending) (longer_placed meaning old log entries has) ∙ waiting_more base (placed log) more))
        (waits_from first t (entries_from base more) (waiting_in log base)
        (some_from first base more (all_weaker (λ (p : Placed). pos_lsn (end_of old) ≤ p.0) (λ p. first ≤ p.0) (λ p h. omega (arith, h, low)) more (behind_end old log entries has long)))
        (firsts.before t));
    reached = λ t. let low = firsts.reached t in omega (arith, low, later);
  } where
    more : List Placed
    more = placed_by (file_max_of old) (end_of old) entries

  -- the log ends no lower
  pub ends_later : (old new : LogBuffer D) (log : Log) (entries : List Entry) → HasLog meaning.observable (now (meaning.history (disk_of old))) old log →
      Grew meaning old new entries → pos_lsn (end_of old) ≤ pos_lsn (end_of new)
  ends_later old new log entries has grew =
      let some : 0 < pos_lsn (end_of old) - 1 = (logs_lie_below log (end_of old) (last_of old) has.is_log has.ends).some in
      let rise = appended_rise log (end_of old) (last_of old) (file_max_of old) entries (pos_lsn (end_of old) - 1) has.is_log has.ends (grew.log log has).is_log (omega (arith, some)) in
      let up = last_rises (pos_lsn (end_of old) - 1) (placed_by (file_max_of old) (end_of old) entries) rise.rise in
      subst (λ (e : LogPos). pos_lsn (end_of old) ≤ pos_lsn e) (sym grew.end) (let under = rise.below in omega (arith, some, up, under))

  -- a log lives on that gets entries without the end of a checkpoint
  pub lives_on : (old new : LogBuffer D) (log : Log) (entries : List Entry) (later : Forest) (since base : ℕ) (written : List (TxnId × OwnNames)) →
      HasLog meaning.observable (now (meaning.history (disk_of old))) old log → Grew meaning old new entries → AreNoEnds entries →
      later (placed (longer old entries log)) base → EndsFrom log base since → ((t : ℕ) → names_at (txn_id t) written ≢ [] → AllByRecursion (IsNoCommitOf t) entries) → AreFirstsOf written (waiting_in log base) (pos_lsn (end_of old)) →
      Lives later (longer old entries log) since (pos_lsn (end_of new)) written base
  lives_on old new log entries later since base written has grew none fits from no_commit firsts = record {
    fits = fits;
    from = ends_from_stays meaning old log entries base since has none from;
    firsts = firsts_grow old log entries base (pos_lsn (end_of new)) written has (grew.log log has).is_log (ends_later old new log entries has grew) no_commit firsts;
  }

  -- the first change that a transaction logs, of which nothing waited before
  pub first_stands : (old new : LogBuffer D) (log : Log) (base first : ℕ) (txn : TxnId) (changes : List TreeChange) (entries : List Entry) → HasLog meaning.observable (now (meaning.history (disk_of old))) old log →
      Grew meaning old new entries → base ≤ pos_lsn (end_of old) → changes ≢ [] → LogsChanges txn changes entries → waiting_in log base txn.0 ≡ [] → first ≡ unwrap_or (first_in old entries) 0 →
      IsFirst (waiting_in (longer old entries log) base txn.0) first (pos_lsn (end_of new))
  first_stands old new log base first txn changes entries has grew begun some logs none first_is = by_changes changes some logs
    where
      more : List Placed
      more = placed_by (file_max_of old) (end_of old) entries

      next_is : 0 < pos_lsn (end_of old) - 1
      next_is = (logs_lie_below log (end_of old) (last_of old) has.is_log has.ends).some

      up : AreAppendedBehind (file_max_of old) (end_of old) entries (pos_lsn (end_of old) - 1)
      up = appended_rise log (end_of old) (last_of old) (file_max_of old) entries (pos_lsn (end_of old) - 1) has.is_log has.ends (grew.log log has).is_log (let low = next_is in omega (arith, low))

      below : last_lsn (pos_lsn (end_of old) - 1) more ≤ pos_lsn (end_of new)
      below = subst (λ (e : LogPos). last_lsn (pos_lsn (end_of old) - 1) more ≤ pos_lsn e) (sym grew.end) (let under = up.below in omega (arith, under))

      waits_are : waiting_in (longer old entries log) base ≡ waiting more (waiting_in log base)
      waits_are =
          ap (λ (es : List Placed). (redone base es).pending) (longer_placed meaning old log entries has) ∙ waiting_more base (placed log) more
          ∙ ap (λ (l : List Placed). waiting l (waiting_in log base))
          (from_all base more (all_weaker (λ (p : Placed). pos_lsn (end_of old) ≤ p.0) (λ p. base ≤ p.0) (λ p h. omega (arith, h, begun)) more (behind_end old log entries has (grew.log log has).is_log)))

      by_changes : (cs : List TreeChange) → cs ≢ [] → LogsChanges txn cs entries → IsFirst (waiting_in (longer old entries log) base txn.0) first (pos_lsn (end_of new))
      by_changes [] named logged = absurd (named refl)
      by_changes (c ∷ cs) named logged =
          let at_is =
          ap (λ (l : List Entry). first_change (placed_by (file_max_of old) (end_of old) l)) logged.3
          ∙ change_first (file_max_of old) (end_of old) logged.0 logged.1 (entry_for txn c.db c.name c.value) logged.2 (is_change txn c.db c.name c.value) in
          subst (λ (f : ℕ → List LoggedChange). IsFirst (f txn.0) first (pos_lsn (end_of new))) (sym waits_are)
          (first_waits (pos_lsn (end_of old) - 1) first (pos_lsn (end_of new)) txn c cs logged.0 logged.1 more (waiting_in log base) none up.rise below logged.2 logged.4 (up.entries_are ∙ logged.3)
          (at_is ∙ sym (ap (λ (n : ℕ). Some n) (first_is ∙ ap (λ (o : Option ℕ). unwrap_or o 0) at_is))))

-- ---- other trees

module _ {D : Type 0} where
  -- a valid environment with other trees, which fit what its trees fit
  pub valid_fits : (observable : Bool) (state : State) (buffer : LogBuffer D) (cells : AllCells) (has_tree : ℕ → Bool) (forest later_forest : Forest) (since : ℕ) (written : List (TxnId × OwnNames)) (st : Standing) →
      ((es : List Placed) (base : ℕ) → forest es base → later_forest es base) → IsValidWith observable state buffer cells has_tree forest since written st →
      IsValidWith observable state buffer cells has_tree later_forest since written st
  valid_fits observable state buffer cells has_tree forest later_forest since written st carries v = record {
    log = v.log;
    has = v.has;
    works = v.works;
    gives = v.gives;
    recovers = v.recovers;
    makes = v.makes;
    writes = v.writes;
    may = v.may;
    made = v.made;
    room = v.room;
    names = v.names;
    fits = carries (placed v.log) v.gives.base v.fits;
    from = v.from;
    firsts = v.firsts;
  }

  -- what holds of a log, and of where this life began
  pub lives_at : (observable : Bool) (state : State) (buffer : LogBuffer D) (cells : AllCells) (has_tree : ℕ → Bool) (forest : Forest) (since : ℕ) (written : List (TxnId × OwnNames)) (st : Standing) →
      (v : IsValidWith observable state buffer cells has_tree forest since written st) → Lives forest v.log since (pos_lsn (end_of buffer)) written v.gives.base
  lives_at observable state buffer cells has_tree forest since written st v = record { fits = v.fits; from = v.from; firsts = v.firsts }

-- the same log, where the trees fit it still, and each transaction has the names and the first LSN that it had, or no names
pub lives_same : (forest later : Forest) (log : Log) (since later_since end later_end : ℕ) (written later_written : List (TxnId × OwnNames)) (base : ℕ) → Lives forest log since end written base →
    (forest (placed log) base → later (placed log) base) → later_since ≡ since → later_end ≡ end → AreFewer written later_written → Lives later log later_since later_end later_written base
lives_same forest later log since later_since end later_end written later_written base lives fits same_since same_end fewer = record {
  fits = fits lives.fits;
  from = subst (EndsFrom log base) (sym same_since) lives.from;
  firsts = subst (AreFirstsOf later_written (waiting_in log base)) (sym same_end) (firsts_fewer written later_written (waiting_in log base) end fewer lives.firsts);
}
