-- Where an environment stands once a transaction has committed.
use Rattle.std.specs.Prelude.{is_some}
use Rattle.log_buffer.specs.Flip.{pos_lsn}
use Rattle.txn_log.specs.Checkpoints.{EndsFrom}
use Rattle.engine.proofs.CallEntries.{commit_no_end}
use Rattle.std.proofs.Common.{◌≡◌, ◌≢◌, ◌⊎◌, inl, inr, ℕ, zero, suc, ◌+◌, ◌≤◌, ◌<◌, ◌==◌, Bool, true, false, true≢false, cond, not, List, [], ◌∷◌, ◌++◌, filter, length, map, count_by, Option, None, Some, Ok, Bor, refl, ap, ap₂, sym, ◌∙◌, subst, arith}
use Rattle.txn_log.proofs.Giving.{transaction_gives, transaction_on, still_gives}
use Rattle.environment.proofs.Databases.{still_known}
use Rattle.environment.proofs.Bases.{begun_with, lives_on}
use Rattle.std.specs.List.{AllByRecursion}
use Rattle.std.specs.Option.{option_copied}
use Rattle.std.proofs.lemmas.Bool.{cond-true, cond-false, eq-eqb}
use Rattle.std.proofs.lemmas.List.{append-nil}
use Rattle.std.proofs.lemmas.List.Sums.{length-filter}
use Rattle.std.proofs.lemmas.Option.{none-some, same_Some}
use Rattle.je_disk.specs.DiskMeaning.{DiskMeaning}
use Rattle.je_disk.specs.Moments.{now}
use Rattle.je_order.specs.Transactions.{is_same_txn}
use Rattle.je_order.proofs.TxnIds.{same_either}
use Rattle.je_order.proofs.Lists.{all_weaker}
use Rattle.store_model.specs.declared.answer.Answer.{Answer}
use Rattle.store_model.specs.declared.answer.Answer.TheVariants.{Done, DiskFault}
use Rattle.store_model.specs.declared.answer.Fault.TheVariants.{Disk}
use Rattle.store_model.specs.declared.call.Call.TheVariants.{Commit}
use Rattle.store_model.specs.declared.change.Change.{Change}
use Rattle.store_model.specs.declared.durability.Durability.{Durability}
use Rattle.store_model.specs.declared.durability.Durability.TheVariants.{Sync, WriteNoSync, NoSync}
use Rattle.store_model.specs.declared.record_change.RecordChange.{RecordChange}
use Rattle.store_model.specs.declared.record_change.RecordChange.TheVariants.{Set, Unset}
use Rattle.store_model.specs.declared.store.Store.{Store}
use Rattle.store_model.specs.declared.totals.Totals.{Totals}
use Rattle.store_model.specs.Refusals.{or_refusal}
use Rattle.store_model.specs.Store.{all_changed, record_count, store_after}
use Rattle.je_answers.specs.declared.active.Active.{Active}
use Rattle.je_answers.specs.Standing.{Standing, active_of, with_at}
use Rattle.je_answers.specs.Refusals.{late_refusal, number_refusal}
use Rattle.je_answers.specs.Views.{changes_named}
use Rattle.je_answers.specs.Events.{IsCommitted, IsEnded, IsEvaluated, commit_answer}
use Rattle.je_answers.specs.After.{Fate, after_commit, after_ending, after_evaluated, committed_if_any, ended, fate_of, faulted}
use Rattle.je_answers.specs.After.{committed as committed_to}
use Rattle.je_answers.specs.After.Fate.{Succeeds, Faults}
use Rattle.je_answers.specs.Journal.{changes_ended, changes_evaluated, is_disk_fault, tried}
use Rattle.log_entry.specs.declared.entry.Entry.TheVariants.{Commit as Committed}
use Rattle.log_buffer.specs.declared.buffer.LogBuffer.{LogBuffer}
use Rattle.log_buffer.specs.declared.log_pos.LogPos.{LogPos}
use Rattle.log_buffer.specs.Buffer.{disk_of as disk_below, end_of, file_max_of, has_failed}
use Rattle.log_buffer.specs.Growth.{longer}
use Rattle.log_replay.specs.Rows.{Rows, Row, numbers_of}
use Rattle.log_replay.proofs.StoreLaws.{number_of_row}
use Rattle.record_tree.specs.Logged.{LogsTransaction}
use Rattle.in_tree.specs.Limits.{HasRoomFor, commit_sizes}
use Rattle.in_tree.specs.Observed.{cells_of, has_tree_of, waits_of}
use Rattle.in_tree.proofs.Far.{files_few}
use Rattle.txn_core.specs.Known.{committed, has_number}
use Rattle.txn_core.specs.Totals.{totals_of}
use Rattle.active_txns.specs.Own.{has_changes}
use Rattle.sessions.specs.declared.all_sessions.Sessions.{Sessions}
use Rattle.sessions.specs.AtStanding.{AreSessionsAt, owing}
use Rattle.standing_laws.specs.Right.{AreSound, txn_id}
use Rattle.standing_laws.proofs.Among.{any_from, its_session}
use Rattle.standing_laws.proofs.CursorDatabases.{all_named}
use Rattle.sessions.proofs.CursorStores.{sessions_changed}
use Rattle.txn_log.specs.Own.{tree_of}
use Rattle.txn_log.specs.AtStanding.{IsLogAt}
use Rattle.txn_log.specs.Buffers.{HasAdded, HasFailed, MayCommit}
use Rattle.log_entry.specs.Encoding.{size_of}
use Rattle.txn_log.specs.Gives.{GivesRecordsWith}
use Rattle.txn_log.specs.Leaves.{LeavesRecords}
use Rattle.txn_log.proofs.BufferLaws.{commit_is_recovered, transaction_is_given}
use Rattle.txn_log.specs.Committing.{MakesStore, MayBeCommitted, OwnAreCommitted, records_had, records_set, rows_own}
use Rattle.txn_log.proofs.AtStandingLaws.{same_under, own_commit_leaves_log, commit_own, transaction_leaves_log}
use Rattle.txn_log.proofs.CommittingLaws.{catalog_stays, own_above, own_may_be_committed}
use Rattle.txn_log.proofs.CountLaws.{had_stay, records_are_counted}
use Rattle.txn_views.specs.Laws.{own_names}
use Rattle.txn_views.proofs.EndLaws.{ends-leave_writes}
use Rattle.engine.specs.declared.kept.Kept.{Kept}
use Rattle.engine.specs.Environment.{RecoversStore}
use Rattle.engine.specs.Limits.{IsWithin}
use Rattle.engine.specs.Steps.{IsNumbered}
use Rattle.engine.proofs.GuardedEvents.{commit_recovered_in, tried_commit_recovered_in}
use Rattle.environment.specs.declared.environment.Environment.{Environment}
use Rattle.active_txns.specs.declared.own_counts.OwnCounts.{OwnCounts}
use Rattle.active_txns.specs.Own.{counted, is_set}
use Rattle.environment.specs.Committing.{HasNotSettled, HasSettled}
use Rattle.environment.specs.Ending.{HasAbandoned}
use Rattle.environment.specs.Limits.{owing_after, written_evaluated}
use Rattle.environment.specs.Steps.{HasCome, HasFailedWith, HasGrown, HasLoggedCall, HasStepped, IsCallStep, PerformsAnswer, RecoversWith, StandsAt}
use Rattle.environment.specs.Valid.{IsValidWith, active_number, owed_by, fitting, Lives, waiting_in, KnowsDatabases}
use Rattle.environment.specs.Whole.{CanGoOn, disk_of, reach_of}
use Rattle.environment.specs.Written.{AreNamesOf, had_at, names_at}
use Rattle.environment.proofs.Answering.{owed_is, within_more}
use Rattle.environment.proofs.CommitRows.{commit_rows, others_stay}
use Rattle.environment.proofs.EndingLaws.{abandoned, abandoned_near, any_left, fewer_of, fewer_pass, found_session, room_fewer}
use Rattle.environment.proofs.Firsts.{fewer_less, firsts_fewer}

abbrev Own : Type 0
Own = List (ℕ × RecordChange)

-- ---- one Commit less is owed

now_has : Active → (ℕ → Own) → Active → Bool
now_has a own b = has_changes (with_at a.txn.0 [] own b.txn.0)

had_it : (a b : Active) (own : ℕ → Own) → has_changes (with_at a.txn.0 [] own b.txn.0) ≡ true → has_changes (own b.txn.0) ≡ true
had_it a b own h = by (b.txn.0 == a.txn.0) refl
  where
    by : (t : Bool) → (b.txn.0 == a.txn.0) ≡ t → has_changes (own b.txn.0) ≡ true
    by true e = absurd (true≢false (sym h ∙ ap (λ (t : Bool). has_changes (cond t [] (own b.txn.0))) e))
    by false e = sym (ap (λ (t : Bool). has_changes (cond t [] (own b.txn.0))) e) ∙ h

one_fewer : (a : Active) (own : ℕ → Own) (as_ : List Active) → active_of a.session as_ ≡ Some a → has_changes (own a.txn.0) ≡ true →
    length (filter (λ (b : Active). has_changes (with_at a.txn.0 [] own b.txn.0)) (filter (λ (b : Active). not (b.session == a.session)) as_)) + 1 ≤ length (filter (λ (b : Active). has_changes (own b.txn.0)) as_)
one_fewer a own [] is has = absurd (none-some a is)
one_fewer a own (b ∷ as_) is has = by (b.session == a.session) refl (one_fewer a own as_)
  where
    later : Active → Bool
    later c = has_changes (with_at a.txn.0 [] own c.txn.0)

    before : Active → Bool
    before c = has_changes (own c.txn.0)

    keeps : Active → Bool
    keeps c = not (c.session == a.session)

    by : (t : Bool) → (b.session == a.session) ≡ t →
        (active_of a.session as_ ≡ Some a → has_changes (own a.txn.0) ≡ true → length (filter later (filter keeps as_)) + 1 ≤ length (filter before as_)) →
        length (filter later (filter keeps (b ∷ as_))) + 1 ≤ length (filter before (b ∷ as_))
    by true e rest =
        let own_ : b ≡ a = same_Some b a (sym (cond-true (b.session == a.session) (Some b) (active_of a.session as_) e) ∙ is) in
        let k = ap (λ (t : Bool). length (filter later (cond (not t) (b ∷ filter keeps as_) (filter keeps as_)))) e in
        let first = fewer_of later keeps as_ in
        let second = fewer_pass later before as_ (λ c. had_it a c own) in
        let m = ap length (cond-true (before b) (b ∷ filter before as_) (filter before as_) (ap before own_ ∙ has)) in
        omega (arith, k, first, second, m)
    by false e rest = by_later (later b) refl (before b) refl
      where
        less : length (filter later (filter keeps as_)) + 1 ≤ length (filter before as_)
        less = rest (sym (cond-false (b.session == a.session) (Some b) (active_of a.session as_) e) ∙ is) has

        k : length (filter later (filter keeps (b ∷ as_))) ≡ length (filter later (b ∷ filter keeps as_))
        k = ap (λ (t : Bool). length (filter later (cond (not t) (b ∷ filter keeps as_) (filter keeps as_)))) e

        by_later : (x : Bool) → later b ≡ x → (y : Bool) → before b ≡ y → length (filter later (filter keeps (b ∷ as_))) + 1 ≤ length (filter before (b ∷ as_))
        by_later true f true g =
            let l = ap length (cond-true (later b) (b ∷ filter later (filter keeps as_)) (filter later (filter keeps as_)) f) in
            let m = ap length (cond-true (before b) (b ∷ filter before as_) (filter before as_) g) in
            omega (arith, k, less, l, m)
        by_later true f false g = absurd (true≢false (sym (had_it a b own f) ∙ g))
        by_later false f true g =
            let l = ap length (cond-false (later b) (b ∷ filter later (filter keeps as_)) (filter later (filter keeps as_)) f) in
            let m = ap length (cond-true (before b) (b ∷ filter before as_) (filter before as_) g) in
            omega (arith, k, less, l, m)
        by_later false f false g =
            let l = ap length (cond-false (later b) (b ∷ filter later (filter keeps as_)) (filter later (filter keeps as_)) f) in
            let m = ap length (cond-false (before b) (b ∷ filter before as_) (filter before as_) g) in
            omega (arith, k, less, l, m)

has_some : (own : Own) → own ≢ [] → has_changes own ≡ true
has_some [] some = absurd (some refl)
has_some (c ∷ own) some = refl

pub owing_one : (st : Standing) (a : Active) → active_of a.session st.actives ≡ Some a → st.own a.txn.0 ≢ [] → owing (ended a st) + 1 ≤ owing st
owing_one st a is some = one_fewer a st.own st.actives is (has_some (st.own a.txn.0) some)

-- ---- answers

if_any : (l : List Change) (st : Standing) → l ≢ [] → committed_if_any l st ≡ committed_to l st
if_any [] st some = absurd (some refl)
if_any (c ∷ l) st some = refl

is_committed : (l : List Change) (st : Standing) (a : Active) (answer : Answer) → l ≢ [] → (answer ≡ commit_answer a.durability st.commits) ⊎ (answer ≡ DiskFault) → IsCommitted l st a answer
is_committed [] st a answer some is = absurd (some refl)
is_committed (c ∷ l) st a answer some is = is

tried_all : (l : List Change) → l ≢ [] → tried l Succeeds ≡ l ∷ []
tried_all [] some = absurd (some refl)
tried_all (c ∷ l) some = refl

tried_fault : (l : List Change) → l ≢ [] → tried l Faults ≡ l ∷ []
tried_fault [] some = absurd (some refl)
tried_fault (c ∷ l) some = refl

fate_done : (d : Durability) (n : ℕ) → fate_of (commit_answer d n) ≡ Succeeds
fate_done Sync n = refl
fate_done WriteNoSync n = refl
fate_done NoSync n = refl

calm : (d : Durability) (n : ℕ) → is_disk_fault (commit_answer d n) ≡ false
calm Sync n = refl
calm WriteNoSync n = refl
calm NoSync n = refl

numbered_done : (d : Durability) (n : ℕ) → IsNumbered (commit_answer d n) (n + 1)
numbered_done Sync n = refl
numbered_done WriteNoSync n = refl
numbered_done NoSync n = tt

never_fault : (d : Durability) (n : ℕ) → commit_answer d n ≡ DiskFault → ⊥
never_fault Sync n is = absurd cc
never_fault WriteNoSync n is = absurd cc
never_fault NoSync n is = absurd cc

commit_late : (st : Standing) (session : ℕ) (a : Active) → active_of session st.actives ≡ Some a → late_refusal st session Commit ≡ None
commit_late st session a some = ap (λ (o : Option Active). or_refusal (number_refusal st.last_txn o) None) some

-- ---- how many records

set_filter : (own : Own) → length (filter (λ (c : ℕ × RecordChange). is_set c.1) own) ≡ records_set own
set_filter [] = refl
set_filter ((d, Set at value) ∷ own) = let rest = set_filter own in omega (arith, rest)
set_filter ((d, Unset at) ∷ own) = let rest = set_filter own in omega (arith, rest)

set_counts : (own : Own) → count_by (λ (c : ℕ × RecordChange). is_set c.1) own ≡ records_set own
set_counts own = sym (length-filter (λ (c : ℕ × RecordChange). is_set c.1) own) ∙ set_filter own

store_push : (base : Store) (transactions : List (List Change)) (own : List Change) → store_after base (transactions ++ own ∷ []) ≡ all_changed own (store_after base transactions)
store_push base [] own = refl
store_push base (changes ∷ transactions) own = store_push (all_changed changes base) transactions own

pub is_under_way : (session : ℕ) (a : Active) (as_ : List Active) → active_of session as_ ≡ Some a → active_number as_ a.txn.0 ≡ true
is_under_way session a as_ is = any_from (λ (c : Active). is_same_txn (txn_id a.txn.0) c.txn) as_ a (its_session session as_ a is).0 (eq-eqb a.txn.0 a.txn.0 refl)

-- ---- where it stands

module _ {D : Type 0} (meaning : DiskMeaning D) where
  module _ (old new : Environment D) (st : Standing) (a : Active) (records : ℕ) where
    abbrev log_old : LogBuffer D
    log_old = old.engine.trees.log

    abbrev log_new : LogBuffer D
    log_new = new.engine.trees.log

    abbrev own_it : Own
    own_it = st.own a.txn.0

    abbrev pub rows_old : Rows
    rows_old = committed (cells_of old.engine.trees)

    abbrev pub later_rows : Rows
    later_rows = rows_own own_it rows_old

    abbrev changes_it : List Change
    changes_it = changes_named st own_it

    abbrev then_ : Standing
    then_ = ended a (committed_to changes_it st)

    abbrev Settled : Type 0
    Settled = HasSettled meaning old new a.session a.txn records

    abbrev Valid : Type 0
    Valid = IsValidWith meaning.observable (now (meaning.history (disk_below log_old))) log_old (cells_of old.engine.trees) (has_tree_of old.engine.trees) (fitting old.engine.trees) old.engine.kept.since old.written.by_txn.entries st

    abbrev Sum : Type 0
    Sum = records + had_at a.txn old.written.by_txn.entries ≡ old.engine.kept.totals.records + count_by (λ (c : ℕ × RecordChange). is_set c.1) own_it

    pub are_own : Valid → OwnAreCommitted rows_old st.last_db st own_it
    are_own v = own_may_be_committed rows_old st.last_db st own_it v.makes (v.may a.txn.0)

    unfoldable pub log_at : (v : Valid) → IsLogAt meaning log_old v.log rows_old (active_number st.actives) st
    log_at v = record { given = record { has = v.has; gives = v.gives }; makes = v.makes; may = v.may }

    abbrev add : Settled → HasAdded meaning log_old log_new (LogsTransaction a.txn [])
    add h = record {
      entries = Committed a.txn ∷ [];
      logs = ([], refl, refl);
      grew = h.committed.grew.grew;
      room = record { max = log_old.max; entries_are = h.committed.grew.fits.entries_are; room = h.committed.grew.fits.room };
    }

    unfoldable log_then : (v : Valid) → (h : Settled) → active_of a.session st.actives ≡ Some a →
        IsLogAt meaning log_new (longer log_old (Committed a.txn ∷ []) v.log) later_rows (active_number then_.actives) then_
    log_then v h is =
        own_commit_leaves_log meaning log_old log_new v.log rows_old (active_number st.actives) (active_number then_.actives) st then_ a.txn (log_at v)
        (is_under_way a.session a st.actives is) (add h) (record { store = refl; numbers = refl; last_db = refl }) refl
        (λ u still. any_left (λ (c : Active). is_same_txn (txn_id u) c.txn) (λ (c : Active). not (c.session == a.session)) st.actives still) (λ u. refl)

    catalog_same : Valid → later_rows 0 ≡ rows_old 0
    catalog_same v = catalog_stays own_it rows_old (all_weaker (MayBeCommitted rows_old) (λ c. c.0 ≢ 0) (λ c m. own_above rows_old c m) own_it (v.may a.txn.0))

    rows_then : Valid → Settled → committed (cells_of new.engine.trees) ≡ later_rows
    rows_then v h =
        commit_rows a.txn.0 st.own (cells_of old.engine.trees) (cells_of new.engine.trees) (names_at a.txn old.written.by_txn.entries) (v.names.names a.txn.0) v.writes h.committed.was_rising h.committed.rising h.committed.cells
        (are_own v).leaves.rising

    names_then : Valid → Settled → AreNamesOf new.written.by_txn.entries then_.own later_rows
    names_then v h = record {
      names = λ t. h.committed.names (txn_id t) ∙ ap (λ (b : Bool). cond b [] (names_at (txn_id t) old.written.by_txn.entries)) (same_either a.txn (txn_id t)) ∙ by_names t (t == a.txn.0);
      had = λ t. h.committed.had (txn_id t) ∙ ap (λ (b : Bool). cond b 0 (had_at (txn_id t) old.written.by_txn.entries)) (same_either a.txn (txn_id t)) ∙ by_had t (t == a.txn.0) refl;
    } where
      by_names : (t : ℕ) (b : Bool) → cond b [] (names_at (txn_id t) old.written.by_txn.entries) ≡ own_names (cond b [] (st.own t))
      by_names t true = refl
      by_names t false = v.names.names t

      by_had : (t : ℕ) (b : Bool) → (t == a.txn.0) ≡ b → cond b 0 (had_at (txn_id t) old.written.by_txn.entries) ≡ records_had (cond b [] (st.own t)) later_rows
      by_had t true e = refl
      by_had t false e = v.names.had t
          ∙ sym (had_stay rows_old later_rows (st.own t) (others_stay a.txn.0 t st.own (cells_of old.engine.trees) rows_old (λ same. true≢false (sym (eq-eqb t a.txn.0 same) ∙ e)) v.writes))

    room_then : Valid → Settled → active_of a.session st.actives ≡ Some a → own_it ≢ [] → (n : ℕ) → owing then_ ≡ suc n → HasRoomFor log_new (commit_sizes (suc n))
    room_then v h is some n owed = by (owing st) refl
      where
        less : owing (ended a st) + 1 ≤ owing st
        less = owing_one st a is some

        by : (m : ℕ) → owing st ≡ m → HasRoomFor log_new (commit_sizes (suc n))
        by zero e = absurd (omega (arith, less, e))
        by (suc m) e = room_fewer log_new (suc n) m (omega (arith, less, e, owed)) (h.committed.left m (v.room m e))

    pub may_commit : Valid → active_of a.session st.actives ≡ Some a →
        MayCommit st.last_txn (active_number st.actives) st.own rows_old later_rows st.last_db st.last_db (λ d. false) a.txn own_it []
    may_commit v is = record {
      has = inl (is_under_way a.session a st.actives is, refl);
      free = tt;
      leaves = subst (LeavesRecords rows_old later_rows st.last_db st.last_db (λ d. false)) (sym (append-nil (map tree_of own_it))) (are_own v).leaves;
    }

    recovers_then : (v : Valid) → (h : Settled) → active_of a.session st.actives ≡ Some a → RecoversStore (longer log_old (Committed a.txn ∷ []) v.log) then_.store
    recovers_then v h is = record {
      first = v.recovers.first;
      opening = v.recovers.opening;
      base = v.recovers.base;
      transactions = v.recovers.transactions ++ changes_it ∷ [];
      recovers =
          commit_is_recovered meaning log_old log_new v.log rows_old later_rows st.last_txn st.last_db st.last_db (active_number st.actives) st.own (λ d. false) a.txn own_it []
          changes_it v.recovers.first v.recovers.opening v.recovers.base v.recovers.transactions (log_at v).given (may_commit v is) (are_own v).store (add h) v.recovers.recovers;
      made = store_push v.recovers.opening v.recovers.transactions changes_it ∙ ap (all_changed changes_it) v.recovers.made;
    }

    valid_then : (v : Valid) → (h : Settled) → active_of a.session st.actives ≡ Some a → own_it ≢ [] →
        IsValidWith meaning.observable (now (meaning.history (disk_below log_new))) log_new (cells_of new.engine.trees) (has_tree_of new.engine.trees) (fitting new.engine.trees) new.engine.kept.since new.written.by_txn.entries then_
    unfolding log_then log_at own_commit_leaves_log commit_own transaction_leaves_log transaction_is_given transaction_gives transaction_on still_gives
    valid_then v h is some =
        let at = log_then v h is in
        let rows = sym (rows_then v h) in
        let lives = subst (Lives (fitting new.engine.trees) (longer log_old (Committed a.txn ∷ []) v.log) new.engine.kept.since (pos_lsn (end_of log_new)) new.written.by_txn.entries)
        (sym (same_under (λ (r : Rows). GivesRecordsWith (longer log_old (Committed a.txn ∷ []) v.log) (end_of log_new) r then_.last_txn then_.last_db (active_number then_.actives) then_.own) (λ r g. g.base) rows at.given.gives))
        (lives_on meaning log_old log_new v.log (Committed a.txn ∷ []) (fitting new.engine.trees) new.engine.kept.since v.gives.base new.written.by_txn.entries v.has h.committed.grew.grew
        (commit_no_end a.txn)
        (h.committed.fits v.log v.gives.base v.has (begun_with v.log (end_of log_old) rows_old st.last_txn st.last_db (active_number st.actives) st.own v.gives) v.fits)
        (subst (λ (k : Kept). EndsFrom v.log v.gives.base k.since) (sym h.committed.kept) v.from)
        (λ t named. ((λ same. named (h.committed.names (txn_id t) ∙ cond-true (is_same_txn a.txn (txn_id t)) [] (names_at (txn_id t) old.written.by_txn.entries) (same_either a.txn (txn_id t) ∙ eq-eqb t a.txn.0 (sym same)))), tt))
        (firsts_fewer old.written.by_txn.entries new.written.by_txn.entries (waiting_in v.log v.gives.base) (pos_lsn (end_of log_old))
        (fewer_less old.written.by_txn.entries new.written.by_txn.entries a.txn h.committed.names h.committed.firsts) v.firsts)) in
        record {
          log = longer log_old (Committed a.txn ∷ []) v.log;
          has = at.given.has;
          works = h.committed.grew.grew.failed ∙ v.works;
          gives = subst (λ (r : Rows). GivesRecordsWith (longer log_old (Committed a.txn ∷ []) v.log) (end_of log_new) r then_.last_txn then_.last_db (active_number then_.actives) then_.own) rows at.given.gives;
          recovers = recovers_then v h is;
          makes = subst (λ (r : Rows). MakesStore r then_.last_db then_) rows at.makes;
          writes = ends-leave_writes a.txn.0 st.own (cells_of old.engine.trees) (cells_of new.engine.trees) (names_at a.txn old.written.by_txn.entries) (v.names.names a.txn.0) v.writes (inl h.committed.cells);
          may = λ t. subst (λ (r : Rows). AllByRecursion (MayBeCommitted r) (then_.own t)) rows (at.may t);
          made = λ db. h.committed.has_tree db ∙ v.made db ∙ ap (λ (l : List Row). has_number (map number_of_row l) db) (sym (catalog_same v)) ∙ ap (λ (r : Rows). has_number (numbers_of r) db) rows;
          room = room_then v h is some;
          names = subst (λ (r : Rows). AreNamesOf new.written.by_txn.entries then_.own r) rows (names_then v h);
          fits = lives.fits;
          from = lives.from;
          firsts = lives.firsts;
        }

    known_then : (v : Valid) → (h : Settled) → active_of a.session st.actives ≡ Some a → own_it ≢ [] → KnowsDatabases st old.engine.kept → KnowsDatabases then_ old.engine.kept
    known_then v h is some knows = still_known rows_old later_rows st.last_db then_.last_db st then_ old.engine.kept v.makes (log_then v h is).makes (catalog_same v) knows

    totals_then : Valid → Settled → Sum → old.engine.kept.totals ≡ totals_of st.store → new.engine.kept.totals ≡ totals_of then_.store
    totals_then v h sum was = ap (λ (k : Kept). k.totals) h.committed.kept ∙ ap₂ both databases count
      where
        both : ℕ → ℕ → Totals
        both d r = record { databases = d; records = r }

        databases : old.engine.kept.totals.databases ≡ length then_.store.databases
        databases = ap (λ (t : Totals). t.databases) was ∙ (ap (λ (s : Store). length s.databases) (sym v.makes.store)
            ∙ (sym (are_own v).databases ∙ ap (λ (s : Store). length s.databases) ((are_own v).store ∙ ap (all_changed changes_it) v.makes.store)))

        count : records ≡ record_count then_.store
        count =
            let counted = records_are_counted rows_old st.last_db st own_it v.makes (v.may a.txn.0) in
            let had = v.names.had a.txn.0 in
            let set = set_counts own_it in
            let all = ap (λ (t : Totals). t.records) was in
            omega (arith, counted, had, set, all, sum)

    pub settled : (most : ℕ) → Settled → active_of a.session st.actives ≡ Some a → own_it ≢ [] → Sum → st.fault ≡ None → StandsAt most meaning old st → StandsAt most meaning new then_
    settled most h is some sum none at = record {
      file_max = h.committed.grew.grew.max ∙ at.file_max;
      fault = ap (λ (k : Kept). k.fault) h.committed.kept ∙ at.fault;
      last_txn = ap (λ (k : Kept). k.last_txn) h.committed.kept ∙ at.last_txn;
      last_db = ap (λ (k : Kept). k.last_db) h.committed.kept ∙ at.last_db ∙ sym last_same;
      commits = ap (λ (k : Kept). k.commits) h.committed.kept ∙ ap (λ (n : ℕ). n + 1) at.commits;
      totals = totals_then (at.valid none) h sum at.totals;
      sessions_at = h.sessions (committed_to changes_it st) a refl refl (sessions_changed old.sessions changes_it st.last_db st (all_named st own_it) at.sessions_at);
      apart = at.apart;
      checkpoint = ap (λ (k : Kept). is_some k.checkpoints.under_way) h.committed.kept ∙ at.checkpoint;
      databases = λ calm_. subst (KnowsDatabases then_) (sym h.committed.kept) (known_then (at.valid none) h is some (at.databases none));
      valid = λ calm_. valid_then (at.valid none) h is some;
    } where
      last_same : then_.last_db ≡ st.last_db
      last_same = ap (λ (n : ℕ). st.last_db + n) (are_own (at.valid none)).made ∙ omega arith

    pub settled_near : Settled → active_of a.session st.actives ≡ Some a → own_it ≢ [] → AreSessionsAt old.sessions st → has_failed log_old ≡ false → IsWithin (reach_of new) (reach_of old)
    settled_near h is some at works = record {
      file =
          let k = ap (λ (b : Bool). cond b 0 ((end_of log_new).file + waits_of new.engine.trees + owed_by new.sessions)) (h.committed.grew.grew.failed ∙ works) in
          let l = ap (λ (b : Bool). cond b 0 ((end_of log_old).file + waits_of old.engine.trees + owed_by old.sessions)) works in
          let end = ap (λ (p : LogPos). p.file) h.committed.grew.grew.end in
          let few = files_few (file_max_of log_old) (end_of log_old) (map size_of (Committed a.txn ∷ [])) in
          let waits = h.committed.waits in
          let less = owing_one st a is some in
          let owed_new = owed_is new.sessions (ended a st) (h.sessions st a refl refl at) in
          let owed_old = owed_is old.sessions st at in
          omega (arith, k, l, end, few, waits, less, owed_new, owed_old);
      node = let k = ap (λ (k : Kept). k.last_node) h.committed.kept in omega (arith, k);
    }

    pub grown_then : (v : Valid) → (h : Settled) → active_of a.session st.actives ≡ Some a → HasGrown meaning log_old log_new (changes_it ∷ [])
    grown_then v h is = record {
      entries = Committed a.txn ∷ [];
      grew = h.committed.grew.grew;
      recovers =
          commit_recovered_in meaning v.log log_old log_new rows_old later_rows st.last_txn st.last_db st.last_db (active_number st.actives) st.own (λ d. false) a.txn own_it []
          changes_it (log_at v).given (may_commit v is) (are_own v).store (add h);
    }

    pub grown_entries : (v : Valid) → (h : Settled) → (is : active_of a.session st.actives ≡ Some a) → (grown_then v h is).entries ≡ Committed a.txn ∷ []
    unfolding grown_then
    grown_entries v h is = refl

    pub came : (most session line : ℕ) → Settled → active_of session st.actives ≡ Some a → own_it ≢ [] → Sum → st.fault ≡ None → StandsAt most meaning old st →
        HasCome meaning most old new st session line Commit (commit_answer a.durability st.commits) []
    came most session line h some nonempty sum none at = subst Come (sym (commit_late st session a some)) (record {
      limit = None;
      has_limit = refl;
      answers = (subst (λ (o : Option Active). IsEnded o st answer) (sym some) (is_committed changes_it st a answer many (inl refl)), refl);
      here = subst (StandsAt most meaning new) (sym path) (settled most h is nonempty sum none at);
      numbered = subst (λ (s : Standing). IsNumbered answer s.commits) (sym path) (numbered_done a.durability st.commits);
      fault = ap (λ (s : Standing). s.fault) path ∙ (none ∙ sym (ap (λ (b : Bool). cond b (Some Disk) None) quiet));
      logged = subst (λ (b : Bool). IsCallStep meaning b old.engine log_new [] (tried (changes_ended (active_of session st.actives) st) (fate_of answer))) (sym quiet)
          (inr (
            a.txn,
            subst (λ (l : List (List Change)). HasLoggedCall meaning old.engine log_new [] l a.txn) (sym tries)
                (record { grown = grown_then v h is; planned = []; rows = refl; logs = ([], refl, grown_entries v h is) }),
          ));
      near = within_more old new [] (settled_near h is nonempty at.sessions_at v.works);
    })
      where
        answer : Answer
        answer = commit_answer a.durability st.commits

        v : Valid
        v = at.valid none

        is : active_of a.session st.actives ≡ Some a
        is = ap (λ (s : ℕ). active_of s st.actives) (found_session session a st.actives some) ∙ some

        many : changes_it ≢ []
        many = (are_own v).some nonempty

        quiet : is_disk_fault answer ≡ false
        quiet = calm a.durability st.commits

        tries : tried (changes_ended (active_of session st.actives) st) (fate_of answer) ≡ changes_it ∷ []
        tries = ap (λ (o : Option Active). tried (changes_ended o st) (fate_of answer)) some ∙ (ap (tried changes_it) (fate_done a.durability st.commits) ∙ tried_all changes_it many)

        path : after_ending (active_of session st.actives) st answer ≡ then_
        path = ap (λ (o : Option Active). after_ending o st answer) some
            ∙ (ap (λ (f : Fate). after_commit f changes_it a st) (fate_done a.durability st.commits) ∙ ap (ended a) (if_any changes_it st many))

        Come : Option Answer → Type 0
        Come late = HasStepped meaning most old new (owing_after st session) (written_evaluated late st session Commit) (changes_evaluated late st session Commit)
            (λ limit. IsEvaluated late limit st session line Commit answer []) (after_evaluated late st session line Commit answer []) answer

    -- ---- the disk failed

    abbrev NotSettled : Type 0
    NotSettled = HasNotSettled meaning old new a.txn

    abbrev pub not_added : NotSettled → HasFailed meaning log_old log_new (LogsTransaction a.txn [])
    not_added h = record {
      entries = Committed a.txn ∷ [];
      front = h.front;
      logs = ([], refl, refl);
      is_front = h.is_front;
      tried = h.tried.tried;
      room = record { max = log_old.max; entries_are = h.tried.fits.entries_are; room = h.tried.fits.room };
    }

    pub failed_then : (v : Valid) → (h : NotSettled) → active_of a.session st.actives ≡ Some a → HasFailedWith meaning log_old log_new (changes_it ∷ [])
    failed_then v h is = record {
      front = h.front;
      tried = h.tried.tried;
      recovers =
          tried_commit_recovered_in meaning v.log log_old log_new rows_old later_rows st.last_txn st.last_db st.last_db (active_number st.actives) st.own (λ d. false) a.txn own_it []
          changes_it (log_at v).given (may_commit v is) (are_own v).store (not_added h);
    }

    -- so many of its names had a record at most
    pub had_within : Valid → old.engine.kept.totals ≡ totals_of st.store → had_at a.txn old.written.by_txn.entries ≤ old.engine.kept.totals.records + count_by (λ (c : ℕ × RecordChange). is_set c.1) own_it
    had_within v at =
        let counted = records_are_counted rows_old st.last_db st own_it v.makes (v.may a.txn.0) in
        let had = v.names.had a.txn.0 in
        let set = set_counts own_it in
        let all = ap (λ (t : Totals). t.records) at in
        omega (arith, counted, had, set, all)

    fault_at : (most : ℕ) → NotSettled → StandsAt most meaning old st → StandsAt most meaning new (faulted st)
    fault_at most h at = record {
      file_max = h.tried.tried.max ∙ at.file_max;
      fault = ap (λ (k : Kept). k.fault) h.kept;
      last_txn = ap (λ (k : Kept). k.last_txn) h.kept ∙ at.last_txn;
      last_db = ap (λ (k : Kept). k.last_db) h.kept ∙ at.last_db;
      commits = ap (λ (k : Kept). k.commits) h.kept ∙ at.commits;
      totals = ap (λ (k : Kept). k.totals) h.kept ∙ at.totals;
      sessions_at = subst (λ (s : Sessions). AreSessionsAt s (faulted st)) (sym h.sessions)
          (record { actives = at.sessions_at.actives; own = at.sessions_at.own; places = at.sessions_at.places; waiting = at.sessions_at.waiting; locks = tt });
      apart = at.apart;
      checkpoint = ap (λ (k : Kept). is_some k.checkpoints.under_way) h.kept ∙ at.checkpoint;
      databases = λ none. absurd (none-some Disk (sym none));
      valid = λ none. absurd (none-some Disk (sym none));
    }

    fault_near : NotSettled → IsWithin (reach_of new) (reach_of old)
    fault_near h = record {
      file = let k = ap (λ (b : Bool). cond b 0 ((end_of log_new).file + waits_of new.engine.trees + owed_by new.sessions)) h.tried.tried.failed in omega (arith, k);
      node = let k = ap (λ (k : Kept). k.last_node) h.kept in omega (arith, k);
    }

    pub came_fault : (most session line : ℕ) → NotSettled → active_of session st.actives ≡ Some a → own_it ≢ [] → st.fault ≡ None → StandsAt most meaning old st →
        HasCome meaning most old new st session line Commit DiskFault []
    came_fault most session line h some nonempty none at = subst Come (sym (commit_late st session a some)) (record {
      limit = None;
      has_limit = refl;
      answers = (subst (λ (o : Option Active). IsEnded o st DiskFault) (sym some) (is_committed changes_it st a DiskFault many (inr refl)), refl);
      here = subst (StandsAt most meaning new) (sym path) (fault_at most h at);
      numbered = tt;
      fault = ap (λ (s : Standing). s.fault) path;
      logged = record {
        front = h.front;
        tried = h.tried.tried;
        recovers = subst (λ (l : List (List Change)). RecoversWith meaning log_old h.front [] ⊎ RecoversWith meaning log_old h.front l) (sym tries)
            (tried_commit_recovered_in meaning v.log log_old log_new rows_old later_rows st.last_txn st.last_db st.last_db (active_number st.actives) st.own (λ d. false) a.txn own_it []
            changes_it (log_at v).given (may_commit v is) (are_own v).store (not_added h));
      };
      near = within_more old new [] (fault_near h);
    })
      where
        v : Valid
        v = at.valid none

        is : active_of a.session st.actives ≡ Some a
        is = ap (λ (s : ℕ). active_of s st.actives) (found_session session a st.actives some) ∙ some

        many : changes_it ≢ []
        many = (are_own v).some nonempty

        tries : tried (changes_ended (active_of session st.actives) st) Faults ≡ changes_it ∷ []
        tries = ap (λ (o : Option Active). tried (changes_ended o st) Faults) some ∙ tried_fault changes_it many

        path : after_ending (active_of session st.actives) st DiskFault ≡ faulted st
        path = ap (λ (o : Option Active). after_ending o st DiskFault) some

        Come : Option Answer → Type 0
        Come late = HasStepped meaning most old new (owing_after st session) (written_evaluated late st session Commit) (changes_evaluated late st session Commit)
            (λ limit. IsEvaluated late limit st session line Commit DiskFault []) (after_evaluated late st session line Commit DiskFault []) DiskFault

    -- ---- nothing was changed

    pub came_empty : (most session line : ℕ) → HasAbandoned old new a.session a.txn → active_of session st.actives ≡ Some a → own_it ≡ [] → AreSound st → st.fault ≡ None → StandsAt most meaning old st →
        HasCome meaning most old new st session line Commit Done []
    came_empty most session line h some empty sound none at = subst Come (sym (commit_late st session a some)) (record {
      limit = None;
      has_limit = refl;
      answers = (subst (λ (o : Option Active). IsEnded o st Done) (sym some) (subst (λ (l : List Change). IsCommitted l st a Done) (sym nothing) refl), refl);
      here = subst (StandsAt most meaning new) (sym path) (abandoned most meaning old new st a h is (λ calm_. sound.numbers) at);
      numbered = tt;
      fault = ap (λ (s : Standing). s.fault) path ∙ none;
      logged = inl (h.log, ap (λ (o : Option Active). tried (changes_ended o st) Succeeds) some ∙ ap (λ (l : List Change). tried l Succeeds) nothing, refl);
      near = within_more old new [] (abandoned_near most meaning old new st a h at.sessions_at);
    })
      where
        is : active_of a.session st.actives ≡ Some a
        is = ap (λ (s : ℕ). active_of s st.actives) (found_session session a st.actives some) ∙ some

        nothing : changes_it ≡ []
        nothing = ap (changes_named st) empty

        path : after_ending (active_of session st.actives) st Done ≡ ended a st
        path = ap (λ (o : Option Active). after_ending o st Done) some ∙ ap (λ (l : List Change). ended a (committed_if_any l st)) nothing

        Come : Option Answer → Type 0
        Come late = HasStepped meaning most old new (owing_after st session) (written_evaluated late st session Commit) (changes_evaluated late st session Commit)
            (λ limit. IsEvaluated late limit st session line Commit Done []) (after_evaluated late st session line Commit Done []) Done

  -- ---- what the call comes to wherever the model stands

  pub room_for : (most : ℕ) (old : Environment D) (st : Standing) (session : ℕ) (a : Active) → active_of session st.actives ≡ Some a → st.own a.txn.0 ≢ [] → st.fault ≡ None →
      StandsAt most meaning old st → (owed : ℕ) × HasRoomFor old.engine.trees.log (commit_sizes (suc owed))
  room_for most old st session a some nonempty none at = by (owing st) refl
    where
      less : owing (ended a st) + 1 ≤ owing st
      less = owing_one st a (ap (λ (s : ℕ). active_of s st.actives) (found_session session a st.actives some) ∙ some) nonempty

      by : (n : ℕ) → owing st ≡ n → (owed : ℕ) × HasRoomFor old.engine.trees.log (commit_sizes (suc owed))
      by zero e = absurd (omega (arith, less, e))
      by (suc n) e = (n, (at.valid none).room n e)

  -- where no change is counted, there is none
  none_of : (own : Own) → length own ≡ 0 → own ≡ []
  none_of [] is = refl
  none_of (c ∷ own) is = absurd (omega (arith, is))

  module _ (old new : Environment D) (session : ℕ) (found : Option (Bor Active)) (a : Bor Active) (its : found ≡ Some a)
      (finds : (st : Standing) → AreSessionsAt old.sessions st → option_copied found ≡ active_of session st.actives)
      (counts : OwnCounts) (counts_are : (st : Standing) → AreSessionsAt old.sessions st → counts ≡ counted (st.own a.now.txn.0)) (valid : old.engine.kept.fault ≡ None) where
    some_at : (st : Standing) → AreSessionsAt old.sessions st → active_of session st.actives ≡ Some a.now
    some_at st at = sym (finds st at) ∙ ap option_copied its

    same_session : (st : Standing) → AreSessionsAt old.sessions st → a.now.session ≡ session
    same_session st at = found_session session a.now st.actives (some_at st at)

    pub empty_performs : counts.len ≡ 0 → HasAbandoned old new session a.now.txn → CanGoOn old → PerformsAnswer meaning old new session Commit (Ok Done)
    empty_performs empty h bounds = record {
      comes = λ most st line at sound early.
          came_empty old new st a.now 0 most session line (subst (λ (s : ℕ). HasAbandoned old new s a.now.txn) (sym (same_session st at.sessions_at)) h) (some_at st at.sessions_at)
          (none_of (st.own a.now.txn.0) (sym (ap (λ (k : OwnCounts). k.len) (counts_are st at.sessions_at)) ∙ empty)) sound (sym at.fault ∙ valid) at;
      near = tt;
      bounds = subst (λ (k : Kept). k.commits ≤ k.last_txn) (sym h.kept) bounds;
      cause = record {
        never_falls = subst (λ (d : D). meaning.faults (disk_of old) ≤ meaning.faults d) (sym h.log.disk) (omega arith);
        fault = λ done. absurd (never_fault NoSync 0 done);
      };
    }

    some_own : counts.len ≢ 0 → (st : Standing) → AreSessionsAt old.sessions st → st.own a.now.txn.0 ≢ []
    some_own nonempty st at none = nonempty (ap (λ (k : OwnCounts). k.len) (counts_are st at) ∙ ap length none)

    pub room_performs : counts.len ≢ 0 → (most : ℕ) (st : Standing) → StandsAt most meaning old st → (owed : ℕ) × HasRoomFor old.engine.trees.log (commit_sizes (suc owed))
    room_performs nonempty most st at = room_for most old st session a.now (some_at st at.sessions_at) (some_own nonempty st at.sessions_at) (sym at.fault ∙ valid) at

    pub settled_performs : (records : ℕ) (answer : Answer) → counts.len ≢ 0 → HasSettled meaning old new session a.now.txn records →
        records + had_at a.now.txn old.written.by_txn.entries ≡ old.engine.kept.totals.records + counts.set →
        old.engine.kept.commits < old.engine.kept.last_txn → ((before : ℕ) → new.engine.kept.commits ≡ before + 1 → answer ≡ commit_answer a.now.durability before) →
        PerformsAnswer meaning old new session Commit (Ok answer)
    settled_performs records answer nonempty h sum fits answers = record {
      comes = λ most st line at sound early.
          subst (λ (r : Answer). HasCome meaning most old new st session line Commit r [])
          (sym (answers st.commits (ap (λ (k : Kept). k.commits) h.committed.kept ∙ ap (λ (n : ℕ). n + 1) at.commits)))
          (came old new st a.now records most session line
          (subst (λ (s : ℕ). HasSettled meaning old new s a.now.txn records) (sym (same_session st at.sessions_at)) h)
          (some_at st at.sessions_at) (some_own nonempty st at.sessions_at)
          (sum ∙ ap (λ (k : OwnCounts). old.engine.kept.totals.records + k.set) (counts_are st at.sessions_at))
          (sym at.fault ∙ valid) at);
      near = tt;
      bounds = subst (λ (k : Kept). k.commits ≤ k.last_txn) (sym h.committed.kept) (omega (arith, fits));
      cause = record {
        never_falls = h.committed.grew.never_falls;
        fault = λ done. absurd (never_fault a.now.durability old.engine.kept.commits (sym (answers old.engine.kept.commits (ap (λ (k : Kept). k.commits) h.committed.kept)) ∙ done));
      };
    }

    pub fault_performs : counts.len ≢ 0 → HasNotSettled meaning old new a.now.txn → CanGoOn old →
        (most : ℕ) (st : Standing) → StandsAt most meaning old st →
        PerformsAnswer meaning old new session Commit (Ok DiskFault)
    fault_performs nonempty h bounds most_here here at_here = record {
      comes = λ most st line at sound early.
          came_fault old new st a.now 0 most session line h (some_at st at.sessions_at) (some_own nonempty st at.sessions_at) (sym at.fault ∙ valid) at;
      near = tt;
      bounds = subst (λ (k : Kept). k.commits ≤ k.last_txn) (sym h.kept) bounds;
      cause = record {
        never_falls = h.tried.never_falls;
        fault = λ done. h.tried.rose (at_here.valid (sym at_here.fault ∙ valid)).works;
      };
    }
