-- Where an environment stands once changes of a transaction under way were to be logged.
use mathlib.Core.Path.{fun_ext}
use Rattle.txn_log.specs.Checkpoints.{EndsFrom}
use Rattle.engine.specs.declared.kept.Kept.{Kept}
use Rattle.engine.proofs.CallEntries.{changes_no_ends}
use Rattle.std.specs.Prelude.{◌≢◌}
use Rattle.log_file.specs.Log.{Log}
use Rattle.log_buffer.specs.Flip.{pos_lsn}
use Rattle.log_trees.specs.Placed.{placed}
use Rattle.environment.proofs.Bases.{begun_with, first_stands, lives_on, lives_same}
use Rattle.std.proofs.Common.{arith, ◌≡◌, inl, ℕ, suc, ◌+◌, ◌≤◌, ◌==◌, nat_lt, Bool, true, false, true≢false, cond, ◌||◌, List, [], ◌∷◌, ◌++◌, map, length, Option, None, Some, Result, Ok, Err, count_by, refl, ap, ap₂, sym, ◌∙◌, subst, unwrap_or}
use Rattle.std.specs.declared.alloc.AllocError.{AllocError}
use Rattle.std.specs.List.{AllByRecursion}
use Rattle.std.proofs.lemmas.Bool.{cond-true}
use Rattle.std.proofs.lemmas.List.{length-map}
use Rattle.je_disk.specs.DiskMeaning.{DiskMeaning}
use Rattle.je_disk.specs.States.{State}
use Rattle.je_disk.specs.Moments.{now}
use Rattle.je_order.specs.declared.txn_id.TxnId.{TxnId}
use Rattle.je_order.proofs.TxnIds.{same_either}
use Rattle.record_map.specs.Cells.{value_at}
use Rattle.record_tree.specs.Logged.{LogsChanges, most_entries}
use Rattle.record_tree.specs.Occupied.{AllCells, AreWritten, IsFreeFor, write_in}
use Rattle.record_tree.specs.declared.tree_change.TreeChange.{TreeChange}
use Rattle.record_tree.specs.declared.tree_err.TreeErr.{TreeErr}
use Rattle.record_tree.specs.declared.tree_err.TreeErr.TheVariants.{Fault, Full as TooFull, IdsEnded as NoNumber, Memory}
use Rattle.record_tree.specs.declared.tree_name.TreeName.{TreeName}
use Rattle.store_model.specs.declared.answer.Answer.{Answer}
use Rattle.store_model.specs.declared.answer.Answer.TheVariants.{LogFull, IdsEnded}
use Rattle.store_model.specs.declared.record_change.RecordChange.{RecordChange}
use Rattle.je_answers.specs.Standing.{Standing, with_at}
use Rattle.je_answers.specs.Views.{with_names, with_numbers}
use Rattle.log_entry.specs.Encoding.{size_of}
use Rattle.log_buffer.specs.declared.log_pos.LogPos.{LogPos}
use Rattle.log_buffer.specs.Buffer.{disk_of as disk_below, end_of, file_max_of, has_failed}
use Rattle.log_buffer.specs.Growth.{longer}
use Rattle.log_buffer.specs.Log.{HasLog}
use Rattle.log_buffer.proofs.BufferLog.{log_kept}
use Rattle.log_replay.specs.Rows.{Rows, numbers_of}
use Rattle.in_tree.specs.Logging.{first_in}
use Rattle.in_tree.specs.Limits.{HasRoomFor, commit_sizes}
use Rattle.in_tree.specs.Observed.{cells_of, has_tree_of, limit_in, waits_of}
use Rattle.in_tree.proofs.Far.{files_few}
use Rattle.txn_core.specs.Known.{committed, has_number}
use Rattle.log_replay.specs.Logging.{all_row_changes}
use Rattle.txn_log.specs.Own.{tree_of}
use Rattle.txn_log.proofs.OwnLaws.{own_are_trees}
use Rattle.je_order.proofs.Lists.{all_weaker}
use Rattle.txn_log.specs.AtStanding.{IsLogAt}
use Rattle.txn_log.specs.Buffers.{HasAdded, HasFailed, HasGiven, MayAddChanges}
use Rattle.txn_log.specs.Committing.{MakesStore, MayBeCommitted, records_had}
use Rattle.txn_log.specs.Gives.{GivesRecordsWith}
use Rattle.txn_log.proofs.AtStandingLaws.{changes_leave_base, changes_leave_log, same_under}
use Rattle.txn_log.proofs.BufferLaws.{changes_are_recovered}
use Rattle.txn_log.proofs.CountLaws.{had_go_on}
use Rattle.txn_views.specs.Laws.{own_names}
use Rattle.txn_views.specs.Seen.{HasWrites}
use Rattle.txn_views.proofs.WriteLaws.{writes-are_own}
use Rattle.sessions.specs.AtStanding.{owing, with_own}
use Rattle.standing_laws.specs.Right.{txn_id}
use Rattle.engine.specs.Limits.{last_number, limit_by, numbers_for}
use Rattle.engine.specs.Whole.{end_file}
use Rattle.engine.proofs.GuardedEvents.{changes_recovered_in, tried_changes_recovered_in}
use Rattle.engine.proofs.LogLaws.{no_limit}
use Rattle.engine.proofs.ReachLaws.{file_within}
use Rattle.engine.proofs.TxnGives.{failed}
use Rattle.environment.specs.declared.environment.Environment.{Environment}
use Rattle.environment.specs.declared.wrote.Wrote.{Wrote}
use Rattle.environment.specs.declared.wrote.Wrote.TheVariants.{Done, Full, NoNumbers, Failed}
use Rattle.environment.specs.Valid.{active_number, fitting, Lives, waiting_in}
use Rattle.environment.specs.Whole.{HasLimit, limit_found}
use Rattle.txn_core.proofs.NoIndexes.{named_no_index}
use Rattle.environment.specs.Written.{AreNamesOf, had_at, names_at, AreFirstsOf}
use Rattle.environment.specs.Writing.{HasWrittenNone, HasWrittenOwn, IsLeft, IsValidAt, MayWrite, WritesAll, WritesOwn, has_record, wrote_by}
use Rattle.environment.proofs.EndingLaws.{room_unchanged}
use Rattle.environment.proofs.ChangeLaws.{Changed, all_there, makes_none, may_commit, rows_are}
use Rattle.environment.proofs.WritingLaws.{had_own, names_append, names_free, planned_free, planned_same, rows_stay}
use Rattle.environment.proofs.Firsts.{changes_no_commit, fewer_same, firsts_written, waiting_none}

module _ {D : Type 0} (meaning : DiskMeaning D) where
  abbrev state_of : Environment D → State
  state_of e = now (meaning.history (disk_below e.engine.trees.log))

  abbrev planned_of : List Changed → List TreeChange
  planned_of cs = map tree_of (with_numbers cs)

  planned_length : (cs : List Changed) → length (planned_of cs) ≡ length cs
  planned_length cs = length-map (with_numbers cs) tree_of ∙ length-map cs (λ c. (c.0.0, c.1))

  abbrev rows_in : Environment D → Rows
  rows_in e = committed (cells_of e.engine.trees)

  -- ---- before

  abbrev LogAt : (old : Environment D) (st : Standing) → IsValidAt meaning old st → Type 0
  LogAt old st v = IsLogAt meaning old.engine.trees.log v.log (rows_in old) (active_number st.actives) st

  unfoldable log_at : (old : Environment D) (st : Standing) (v : IsValidAt meaning old st) → LogAt old st v
  log_at old st v = record { given = record { has = v.has; gives = v.gives }; makes = v.makes; may = v.may }

  may_add : (st : Standing) (txn : TxnId) (cs : List Changed) → MayWrite st txn.0 cs → active_number st.actives txn.0 ≡ true →
      MayAddChanges st.last_txn (active_number st.actives) st.own txn (planned_of cs)
  may_add st txn cs m active = record { active = active; drawn = m.drawn; free = names_free (active_number st.actives) txn.0 (with_numbers cs) st.own m.free }

  pub trees_there : (old : Environment D) (st : Standing) (txn : TxnId) (cs : List Changed) → IsValidAt meaning old st → MayWrite st txn.0 cs →
      AllByRecursion (λ c. has_tree_of old.engine.trees c.db ≡ true) (planned_of cs)
  trees_there old st txn cs v m =
      all_weaker (λ (c : TreeChange). has_number (numbers_of (rows_in old)) c.db ≡ true) (λ c. has_tree_of old.engine.trees c.db ≡ true) (λ c there. v.made c.db ∙ there) (planned_of cs)
      (all_there (rows_in old) st.last_db st v.makes cs m.each)

  pub free_there : (old : Environment D) (st : Standing) (txn : TxnId) (cs : List Changed) → IsValidAt meaning old st → MayWrite st txn.0 cs →
      AllByRecursion (λ c. IsFreeFor txn (write_in (value_at c.name (cells_of old.engine.trees c.db)))) (planned_of cs)
  free_there old st txn cs v m = planned_free txn (with_numbers cs) st.own (cells_of old.engine.trees) v.writes m.free

  -- ---- the limit

  limit_for : (old : Environment D) (st : Standing) (txn : TxnId) (cs : List Changed) (owed : ℕ) (limit : Option Answer) → old.engine.kept.last_db ≡ st.last_db → IsValidAt meaning old st → MayWrite st txn.0 cs →
      limit ≡ limit_by (limit_in old.engine.trees (planned_of cs) owed) old.engine.kept.last_node (length (planned_of cs)) → HasLimit old owed (with_names cs) limit
  limit_for old st txn [] owed limit last v m is = absurd (m.some refl)
  limit_for old st txn (c ∷ cs) owed limit last v m is = record {
    planned = planned_of (c ∷ cs);
    rows = rows_are (rows_in old) st.last_db st v.makes 0 (c ∷ cs) m.each ∙ ap (λ (n : ℕ). all_row_changes 0 n (with_names (c ∷ cs)) (rows_in old)) (sym last);
    makes = λ few d made. absurd (true≢false (sym made ∙ makes_none d (with_numbers (c ∷ cs))));
    is = is ∙ ap (λ (b : Bool). limit_by (limit_found b old.engine.trees (planned_of (c ∷ cs)) owed) old.engine.kept.last_node (length (planned_of (c ∷ cs)))) (sym (named_no_index (c ∷ cs)));
  }

  none_found : (found : Option TreeErr) (node count : ℕ) → wrote_by found ≡ NoNumbers → nat_lt last_number (node + numbers_for count) ≡ true → Some IdsEnded ≡ limit_by found node count
  none_found None node count is lack = sym (ap (λ (b : Bool). cond b (Some IdsEnded) None) lack)
  none_found (Some TooFull) node count is lack = absurd cc
  none_found (Some NoNumber) node count is lack = sym (ap (λ (b : Bool). cond b (Some IdsEnded) None) lack)
  none_found (Some Fault) node count is lack = sym (ap (λ (b : Bool). cond b (Some IdsEnded) None) lack)
  none_found (Some Memory) node count is lack = sym (ap (λ (b : Bool). cond b (Some IdsEnded) None) lack)

  -- ---- nothing was written

  pub left_valid : (old new : Environment D) (st : Standing) → HasWrittenNone old new → IsValidAt meaning old st → IsValidAt meaning new st
  left_valid old new st h v =
      let same : cells_of new.engine.trees ≡ cells_of old.engine.trees = fun_ext h.trees.cells in
      let log = h.trees.log in
      let lives = subst (Lives (fitting new.engine.trees) v.log new.engine.kept.since (pos_lsn (end_of new.engine.trees.log)) new.written.by_txn.entries)
      (sym (same_under (λ (e : LogPos). GivesRecordsWith v.log e (rows_in new) st.last_txn st.last_db (active_number st.actives) st.own) (λ e g. g.base) (sym log.kept.end)
      (subst (λ (c : AllCells). GivesRecordsWith v.log (end_of old.engine.trees.log) (committed c) st.last_txn st.last_db (active_number st.actives) st.own) (sym same) v.gives)
      ∙ same_under (λ (c : AllCells). GivesRecordsWith v.log (end_of old.engine.trees.log) (committed c) st.last_txn st.last_db (active_number st.actives) st.own) (λ c g. g.base) (sym same) v.gives))
      (lives_same (fitting old.engine.trees) (fitting new.engine.trees) v.log old.engine.kept.since new.engine.kept.since (pos_lsn (end_of old.engine.trees.log)) (pos_lsn (end_of new.engine.trees.log))
      old.written.by_txn.entries new.written.by_txn.entries v.gives.base (record { fits = v.fits; from = v.from; firsts = v.firsts }) (h.trees.fits (placed v.log) v.gives.base) (ap (λ (k : Kept). k.since) h.kept)
      (ap pos_lsn log.kept.end) (fewer_same old.written.by_txn.entries new.written.by_txn.entries h.written.names h.written.firsts)) in
      record {
        log = v.log;
        has = subst (λ (d : D). HasLog meaning.observable (now (meaning.history d)) new.engine.trees.log v.log) (sym log.disk)
            (log_kept meaning.observable (state_of old) old.engine.trees.log new.engine.trees.log v.log log.kept v.has);
        works = log.failed ∙ v.works;
        gives = subst (λ (e : LogPos). GivesRecordsWith v.log e (rows_in new) st.last_txn st.last_db (active_number st.actives) st.own) (sym log.kept.end)
            (subst (λ (c : AllCells). GivesRecordsWith v.log (end_of old.engine.trees.log) (committed c) st.last_txn st.last_db (active_number st.actives) st.own) (sym same) v.gives);
        recovers = v.recovers;
        makes = subst (λ (c : AllCells). MakesStore (committed c) st.last_db st) (sym same) v.makes;
        writes = subst (λ (c : AllCells). HasWrites c st.own) (sym same) v.writes;
        may = subst (λ (c : AllCells). (t : ℕ) → AllByRecursion (MayBeCommitted (committed c)) (st.own t)) (sym same) v.may;
        made = λ d. h.trees.made d ∙ v.made d ∙ sym (ap (λ (c : AllCells). has_number (numbers_of (committed c)) d) same);
        room = λ n is. room_unchanged old.engine.trees.log new.engine.trees.log (commit_sizes (suc n)) log (v.room n is);
        names = subst (λ (c : AllCells). AreNamesOf new.written.by_txn.entries st.own (committed c)) (sym same) (record {
          names = λ t. h.written.names (txn_id t) ∙ v.names.names t;
          had = λ t. h.written.had (txn_id t) ∙ v.names.had t;
        });
        fits = lives.fits;
        from = lives.from;
        firsts = lives.firsts;
      }

  pub is_left : (old new : Environment D) → HasWrittenNone old new → IsLeft old new
  is_left old new h = record {
    log = h.trees.log;
    kept = h.kept;
    end = ap₂ (λ (b : Bool) (n : ℕ). cond b 0 n) h.trees.log.failed (ap₂ (λ (p : LogPos) (n : ℕ). p.file + n) h.trees.log.kept.end h.trees.waits);
  }

  -- ---- changes were written

  module _ (old new : Environment D) (txn : TxnId) (st : Standing) (cs : List Changed) (owed : ℕ) (v : IsValidAt meaning old st) (m : MayWrite st txn.0 cs)
      (active : active_number st.actives txn.0 ≡ true) (last : old.engine.kept.last_db ≡ st.last_db) where
    abbrev planned_ : List TreeChange
    planned_ = planned_of cs

    abbrev own_ : List (ℕ × RecordChange)
    own_ = with_numbers cs

    abbrev rows_ : Rows
    rows_ = rows_in old

    abbrev after_ : Standing
    after_ = with_own txn.0 own_ st

    abbrev Written : Type 0
    Written = HasWrittenOwn meaning old new txn planned_ (own_names own_) owed

    abbrev Added : Type 0
    Added = HasAdded meaning old.engine.trees.log new.engine.trees.log (LogsChanges txn planned_)

    may_own : AllByRecursion (MayBeCommitted rows_) own_
    may_own = may_commit rows_ st.last_db st v.makes cs m.each

    given : HasGiven meaning old.engine.trees.log v.log rows_ st.last_txn st.last_db (active_number st.actives) st.own
    given = record { has = v.has; gives = v.gives }

    unfoldable log_on : (a : Added) → IsLogAt meaning new.engine.trees.log (longer old.engine.trees.log a.entries v.log) rows_ (active_number st.actives) after_
    log_on a =
        changes_leave_log meaning old.engine.trees.log new.engine.trees.log v.log rows_ (active_number st.actives) st after_ txn planned_
        (log_at old st v) (may_add st txn cs m active) (subst (AllByRecursion (MayBeCommitted rows_)) (sym (own_are_trees own_)) may_own) a refl refl refl refl
        (λ u. ap (λ (l : List (ℕ × RecordChange)). with_at txn.0 (st.own txn.0 ++ l) st.own u) (sym (own_are_trees own_)))

    abbrev add_ : Written → Added
    add_ w = record {
      entries = w.logged.entries;
      logs = w.logged.logs;
      grew = w.logged.grew.grew;
      room = record { max = old.engine.trees.log.max; entries_are = w.logged.grew.fits.entries_are; room = w.logged.grew.fits.room };
    }

    base_on : (a : Added) → (log_on a).given.gives.base ≡ v.gives.base
    unfolding log_on log_at
    base_on a =
        changes_leave_base meaning old.engine.trees.log new.engine.trees.log v.log rows_ (active_number st.actives) st after_ txn planned_
        (log_at old st v) (may_add st txn cs m active) (subst (AllByRecursion (MayBeCommitted rows_)) (sym (own_are_trees own_)) may_own) a refl refl refl refl
        (λ u. ap (λ (l : List (ℕ × RecordChange)). with_at txn.0 (st.own txn.0 ++ l) st.own u) (sym (own_are_trees own_)))

    names_on : Written → AreNamesOf new.written.by_txn.entries after_.own rows_
    names_on w = record {
      names = λ t. w.names (txn_id t) ∙ ap (λ (b : Bool). cond b (names_at txn old.written.by_txn.entries ++ own_names own_) (names_at (txn_id t) old.written.by_txn.entries)) (same_either txn (txn_id t))
          ∙ by_names t (t == txn.0);
      had = λ t. w.had (txn_id t)
          ∙ ap (λ (b : Bool). cond b (had_at txn old.written.by_txn.entries + count_) (had_at (txn_id t) old.written.by_txn.entries)) (same_either txn (txn_id t))
          ∙ by_had t (t == txn.0);
    } where
      count_ : ℕ
      count_ = count_by (has_record txn (cells_of old.engine.trees)) planned_

      by_names : (t : ℕ) (b : Bool) → cond b (names_at txn old.written.by_txn.entries ++ own_names own_) (names_at (txn_id t) old.written.by_txn.entries) ≡ own_names (cond b (st.own txn.0 ++ own_) (st.own t))
      by_names t true = ap (λ (l : List TreeName). l ++ own_names own_) (v.names.names txn.0) ∙ sym (names_append (st.own txn.0) own_)
      by_names t false = v.names.names t

      by_had : (t : ℕ) (b : Bool) → cond b (had_at txn old.written.by_txn.entries + count_) (had_at (txn_id t) old.written.by_txn.entries) ≡ records_had (cond b (st.own txn.0 ++ own_) (st.own t)) rows_
      by_had t true =
          ap₂ (λ (x y : ℕ). x + y) (v.names.had txn.0) (had_own txn own_ st.own (cells_of old.engine.trees) w.was_rising v.writes m.apart)
          ∙ sym (had_go_on rows_ (st.own txn.0) own_)
      by_had t false = v.names.had t

    some_planned : planned_ ≢ []
    some_planned none = m.some (none_long cs (sym (planned_length cs) ∙ ap (λ (l : List TreeChange). length l) none))
      where
        none_long : (l : List Changed) → length l ≡ 0 → l ≡ []
        none_long [] is = refl
        none_long (c ∷ l) is = absurd (omega (arith, is))

    -- in the longer log each transaction has its first LSN
    firsts_on : (w : Written) → (a : Added) → w.first ≡ unwrap_or (first_in old.engine.trees.log a.entries) 0 →
        AreFirstsOf old.written.by_txn.entries (waiting_in (longer old.engine.trees.log a.entries v.log) v.gives.base) (pos_lsn (end_of new.engine.trees.log)) →
        AreFirstsOf new.written.by_txn.entries (waiting_in (longer old.engine.trees.log a.entries v.log) v.gives.base) (pos_lsn (end_of new.engine.trees.log))
    firsts_on w a first_is firsts =
        firsts_written old.written.by_txn.entries new.written.by_txn.entries (waiting_in (longer old.engine.trees.log a.entries v.log) v.gives.base) (pos_lsn (end_of new.engine.trees.log)) w.first txn (own_names own_)
        (λ none named. first_stands meaning old.engine.trees.log new.engine.trees.log v.log v.gives.base w.first txn planned_ a.entries v.has a.grew
        (begun_with v.log (end_of old.engine.trees.log) rows_ st.last_txn st.last_db (active_number st.actives) st.own v.gives) some_planned a.logs
        (waiting_none v.log (end_of old.engine.trees.log) rows_ st.last_txn st.last_db (active_number st.actives) st.own v.gives old.written.by_txn.entries txn.0 v.names active none) first_is)
        w.names w.firsts firsts

    done_valid : (w : Written) → (a : Added) → w.first ≡ unwrap_or (first_in old.engine.trees.log a.entries) 0 →
        ((log : Log) (base : ℕ) → HasLog meaning.observable (now (meaning.history (disk_below old.engine.trees.log))) old.engine.trees.log log → base ≤ pos_lsn (end_of old.engine.trees.log) → fitting old.engine.trees (placed log) base →
        fitting new.engine.trees (placed (longer old.engine.trees.log a.entries log)) base) →
        owed ≡ owing after_ → IsValidAt meaning new after_
    done_valid w a first_is carries owes =
        let same : rows_in new ≡ rows_ = rows_stay txn planned_ (cells_of old.engine.trees) (cells_of new.engine.trees) w.was_rising w.rising w.writes in
        let on = log_on a in
        let lives = subst (Lives (fitting new.engine.trees) (longer old.engine.trees.log a.entries v.log) new.engine.kept.since (pos_lsn (end_of new.engine.trees.log)) new.written.by_txn.entries)
        (sym (same_under (λ (r : Rows). GivesRecordsWith (longer old.engine.trees.log a.entries v.log) (end_of new.engine.trees.log) r st.last_txn st.last_db (active_number st.actives) after_.own) (λ r g. g.base) (sym same) on.given.gives
        ∙ base_on a))
        (lives_with
        (lives_on meaning old.engine.trees.log new.engine.trees.log v.log a.entries (fitting new.engine.trees) new.engine.kept.since v.gives.base old.written.by_txn.entries v.has a.grew
        (changes_no_ends txn planned_ a.entries a.logs)
        (carries v.log v.gives.base v.has (begun_with v.log (end_of old.engine.trees.log) rows_ st.last_txn st.last_db (active_number st.actives) st.own v.gives) v.fits)
        (subst (λ (k : Kept). EndsFrom v.log v.gives.base k.since) (sym w.kept) v.from) (λ t named. changes_no_commit t txn planned_ a.entries a.logs) v.firsts)) in
        record {
          log = longer old.engine.trees.log a.entries v.log;
          has = on.given.has;
          works = a.grew.failed ∙ v.works;
          gives = subst (λ (r : Rows). GivesRecordsWith (longer old.engine.trees.log a.entries v.log) (end_of new.engine.trees.log) r st.last_txn st.last_db (active_number st.actives) after_.own) (sym same) on.given.gives;
          recovers = record {
            first = v.recovers.first;
            opening = v.recovers.opening;
            base = v.recovers.base;
            transactions = v.recovers.transactions;
            recovers = changes_are_recovered meaning old.engine.trees.log new.engine.trees.log v.log rows_ st.last_txn st.last_db (active_number st.actives) st.own txn planned_
                v.recovers.first v.recovers.opening v.recovers.base v.recovers.transactions given (may_add st txn cs m active) a v.recovers.recovers;
            made = v.recovers.made;
          };
          makes = subst (λ (r : Rows). MakesStore r st.last_db after_) (sym same) on.makes;
          writes = writes-are_own txn own_ st.own (cells_of old.engine.trees) (cells_of new.engine.trees) v.writes
              (subst (AllByRecursion (λ (c : TreeChange). IsFreeFor txn (write_in (value_at c.name (cells_of old.engine.trees c.db))))) (planned_same own_) (free_there old st txn cs v m))
              (subst (λ (l : List TreeChange). AreWritten txn l (cells_of old.engine.trees) (cells_of new.engine.trees)) (planned_same own_) w.writes);
          may = subst (λ (r : Rows). (t : ℕ) → AllByRecursion (MayBeCommitted r) (after_.own t)) (sym same) on.may;
          made = λ d. w.made d ∙ ap (λ (b : Bool). b || has_tree_of old.engine.trees d) (makes_none d own_) ∙ v.made d ∙ sym (ap (λ (r : Rows). has_number (numbers_of r) d) same);
          room = λ n is. subst (λ (k : ℕ). HasRoomFor new.engine.trees.log (commit_sizes k)) (owes ∙ is) w.room;
          names = subst (λ (r : Rows). AreNamesOf new.written.by_txn.entries after_.own r) (sym same) (names_on w);
          fits = lives.fits;
          from = lives.from;
          firsts = lives.firsts;
        }
      where
        later : Log
        later = longer old.engine.trees.log a.entries v.log

        lives_with : Lives (fitting new.engine.trees) later new.engine.kept.since (pos_lsn (end_of new.engine.trees.log)) old.written.by_txn.entries v.gives.base →
            Lives (fitting new.engine.trees) later new.engine.kept.since (pos_lsn (end_of new.engine.trees.log)) new.written.by_txn.entries v.gives.base
        lives_with lives = record { fits = lives.fits; from = lives.from; firsts = firsts_on w a first_is lives.firsts }

    near : Written → end_file new.engine.trees ≤ end_file old.engine.trees + most_entries (length cs)
    near w =
        let grown = w.logged.grew.grew in
        let ends = ap (λ (e : LogPos). e.file) grown.end in
        let files = files_few (file_max_of old.engine.trees.log) (end_of old.engine.trees.log) (map size_of w.logged.entries) in
        let mapped = length-map w.logged.entries size_of in
        let few = w.logged.waits in
        let count = planned_length cs in
        file_within (has_failed old.engine.trees.log) (has_failed new.engine.trees.log) ((end_of old.engine.trees.log).file + waits_of old.engine.trees) ((end_of new.engine.trees.log).file + waits_of new.engine.trees)
        (most_entries (length cs)) grown.failed (omega (arith, ends, files, mapped, few, count))

    pub done : Written → owed ≡ owing after_ → WritesOwn meaning old new st txn.0 cs owed (Ok Done)
    done w owes = (
      done_valid w (add_ w) w.logged.first_is w.logged.fits owes,
      record {
        grown = record {
          entries = (add_ w).entries;
          grew = (add_ w).grew;
          recovers = changes_recovered_in meaning v.log old.engine.trees.log new.engine.trees.log rows_ st.last_txn st.last_db (active_number st.actives) st.own txn planned_ given
              (may_add st txn cs m active) (add_ w);
        };
        planned = planned_;
        rows = rows_are rows_ st.last_db st v.makes 0 cs m.each ∙ ap (λ (n : ℕ). all_row_changes 0 n (with_names cs) rows_) (sym last);
        logs = w.logged.logs;
      },
      limit_for old st txn cs owed None last v m (sym (no_limit (limit_in old.engine.trees planned_ owed) old.engine.kept.last_node (length planned_) w.limit w.left)),
      (add_ w).grew.max,
      w.kept ∙ ap (λ (n : ℕ). record old.engine.kept { last_node = old.engine.kept.last_node + numbers_for n }) (planned_length cs),
      near w,
    )

    pub tried : WritesAll meaning old new txn planned_ (own_names own_) owed (Ok Failed) →
        WritesOwn meaning old new st txn.0 cs owed (Ok Failed)
    tried t = (
      record {
        front = f.front;
        tried = f.tried;
        recovers = inl (tried_changes_recovered_in meaning v.log old.engine.trees.log new.engine.trees.log rows_ st.last_txn st.last_db (active_number st.actives) st.own txn planned_
            given (may_add st txn cs m active) f);
      },
      limit_for old st txn cs owed None last v m (sym (no_limit (limit_in old.engine.trees planned_ owed) old.engine.kept.last_node (length planned_) t.1 t.2)),
      f.tried.max,
      t.3,
      cond-true (has_failed new.engine.trees.log) 0 ((end_of new.engine.trees.log).file + waits_of new.engine.trees) f.tried.failed,
    ) where
      f : HasFailed meaning old.engine.trees.log new.engine.trees.log (LogsChanges txn planned_)
      f = failed meaning old.engine.trees.log new.engine.trees.log (LogsChanges txn planned_) t.0.entries t.0.front t.0.logs t.0.is_front t.0.tried

    pub writes_own : (result : Result Wrote AllocError) → owed ≡ owing after_ → WritesAll meaning old new txn planned_ (own_names own_) owed result →
        WritesOwn meaning old new st txn.0 cs owed result
    writes_own (Ok Done) owes w = done w owes
    writes_own (Ok Full) owes w = (
      left_valid old new st w.0 v,
      is_left old new w.0,
      limit_for old st txn cs owed (Some LogFull) last v m (sym (ap (λ (f : Option TreeErr). limit_by f old.engine.kept.last_node (length planned_)) w.1)),
    )
    writes_own (Ok NoNumbers) owes w = (
      left_valid old new st w.0 v,
      is_left old new w.0,
      limit_for old st txn cs owed (Some IdsEnded) last v m (none_found (limit_in old.engine.trees planned_ owed) old.engine.kept.last_node (length planned_) w.1 w.2),
    )
    writes_own (Ok Failed) owes w = tried w
    writes_own (Err error) owes w = (left_valid old new st w v, is_left old new w)
