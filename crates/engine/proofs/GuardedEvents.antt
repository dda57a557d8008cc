-- A guarded run goes on by an event, whatever transactions are under way.
use Rattle.std.proofs.Common.{◌≡◌, ℕ, ◌≤◌, ◌⊎◌, inl, inr, Bool, true, false, List, [], ◌∷◌, ◌++◌, Option, None, refl, ap, sym, ◌∙◌, subst, arith, Some, length}
use Rattle.std.specs.Prelude.{◌≢◌}
use Rattle.std.proofs.lemmas.List.{append-nil}
use Rattle.je_disk.specs.DiskMeaning.{DiskMeaning}
use Rattle.je_disk.specs.States.{State}
use Rattle.je_disk.specs.Moments.{History, now}
use Rattle.je_order.specs.declared.txn_id.TxnId.{TxnId}
use Rattle.store_model.specs.declared.change.Change.{Change}
use Rattle.store_model.specs.declared.event.Event.{Event}
use Rattle.store_model.specs.declared.store.Store.{Store}
use Rattle.store_model.specs.Store.{all_changed}
use Rattle.je_answers.specs.Standing.{Standing}
use Rattle.je_answers.specs.After.{after_event, after_events}
use Rattle.je_answers.specs.Journal.{answers_some, attempt_of, attempts_of, is_disk_fault, synced_of}
use Rattle.je_answers.specs.Written.{written_by}
use Rattle.je_answers.proofs.Journals.{after_events-append}
use Rattle.log_entry.specs.declared.entry.Entry.{Entry}
use Rattle.log_file.specs.Log.{Log, entries_of}
use Rattle.log_buffer.specs.declared.buffer.LogBuffer.{LogBuffer}
use Rattle.log_buffer.specs.Buffer.{disk_of, end_of, file_max_of, has_failed, last_of, IsUnchanged}
use Rattle.log_buffer.specs.Crash.{KeepsRead, KeptThrough}
use Rattle.log_buffer.specs.Growth.{Grew, Tried, longer}
use Rattle.log_buffer.specs.Log.{HasLog}
use Rattle.log_buffer.proofs.GrowthLaws.{ends_in, read_with_all}
use Rattle.log_buffer.proofs.Staying.{read_through}
use Rattle.log_replay.specs.Rows.{Rows, store_of}
use Rattle.log_trees.specs.Placed.{placed}
use Rattle.log_meaning.specs.Recovery.{commits_in}
use Rattle.record_tree.specs.declared.tree_change.TreeChange.{TreeChange}
use Rattle.record_tree.specs.Logged.{LogsChanges, LogsTransaction}
use Rattle.crash_recovery.specs.Recovery.{RecoversLog}
use Rattle.crash_recovery.proofs.Commits.{commits_stay, kept_are_within}
use Rattle.txn_log.specs.Own.{OwnChange}
use Rattle.txn_log.specs.Buffers.{HasAdded, HasFailed, HasGiven, MayAddChanges, MayCommit}
use Rattle.txn_log.proofs.BufferLaws.{changes_are_recovered, commit_is_recovered, tried_changes_are_recovered, tried_commit_decided, tried_commit_is_recovered}
use Rattle.engine.specs.Guarded.{IsGuardedLog, IsKeeping, CoversSync}
use Rattle.engine.specs.Lengths.{KeepsSizes}
use Rattle.engine.proofs.LengthLaws.{sizes_more}
use Rattle.engine.proofs.GuardLaws.{goes_freely, guarded_quiet, keeping_read, one_log}
use Rattle.engine.proofs.GuardedCalls.{grown_longer, guarded_along}
use Rattle.engine.proofs.ObservedLaws.{as_observed, of_observed}
use Rattle.engine.proofs.SafeLaws.{IsGrownFrom, attempts-push, guarded_on}
use Rattle.engine.proofs.SyncLaws.{passes_now, all_logged}
use Rattle.engine.specs.Syncs.{is_sync}
use Rattle.engine.proofs.Begun.{stays_out}

-- An event that attempts this many transactions more, behind which the log recovers these ones; only one that was cut short may not be among them.
pub record IsAttemptedBy (st : Standing) (first base least : ℕ) (journal : List Event) (event : Event) (more : List (List Change)) (grown : Log) (logged cut : List (List Change)) : Type 0 where
  pub other : is_sync event ≡ false
  pub more_is : attempt_of (after_events st journal) event ≡ more
  pub durable : written_by event ≡ 0
  pub recovers : RecoversLog first st.store base logged grown
  pub attempts : attempts_of st journal ++ more ≡ logged ++ cut
  pub synced : synced_of journal ≤ commits_in base least (placed grown)

-- what an event that logs something is answered, and where it leaves the environment
pub record IsLoggedBy (st : Standing) (journal : List Event) (event : Event) (more : List (List Change)) : Type 0 where
  pub other : is_sync event ≡ false
  pub more_is : attempt_of (after_events st journal) event ≡ more
  pub durable : written_by event ≡ 0
  pub before : (after_events st journal).fault ≡ None
  pub after : (after_event (after_events st journal) event).fault ≡ None
  pub calm : answers_some is_disk_fault event ≡ false

-- the same where the disk failed
pub record IsFailedBy (st : Standing) (journal : List Event) (event : Event) (more : List (List Change)) : Type 0 where
  pub other : is_sync event ≡ false
  pub more_is : attempt_of (after_events st journal) event ≡ more
  pub durable : written_by event ≡ 0
  pub before : (after_events st journal).fault ≡ None
  pub after : (after_event (after_events st journal) event).fault ≢ None

-- what a sync that is out covers stays covered where the log grows
covers_grown : (commits : Option ℕ) (base : ℕ) (log grown : Log) (begun : Option ℕ) → IsGrownFrom base log grown → CoversSync commits base log begun → CoversSync commits base grown begun
covers_grown None base log grown begun grows covers = tt
covers_grown (Some commits) base log grown None grows covers = absurd covers
covers_grown (Some commits) base log grown (Some kept) grows covers =
    let within : kept ≤ length (entries_of log) = covers.0 in
    let few : commits ≤ commits_in base kept (placed log) = covers.1 in
    let more : length (entries_of log) ≤ length (entries_of grown) = grows.longer in
    (omega (arith, within, more), subst (λ (n : ℕ). commits ≤ n) (sym (grows.commits kept within)) few)

module _ {D : Type 0} where
  -- what the first entries of a guarded log commit stays where it grows
  synced_grown : (st : Standing) (log : Log) (start : History) (history : History) (buffer : LogBuffer D) (journal : List Event) (entries : List Entry) →
      (g : IsGuardedLog st log start history buffer journal) → HasLog true (now history) buffer log → synced_of journal ≤ commits_in g.base g.least (placed (longer buffer entries log))
  synced_grown st log start history buffer journal entries g has =
      subst (λ (n : ℕ). synced_of journal ≤ n)
      (sym (commits_stay log (end_of buffer) (last_of buffer) (file_max_of buffer) entries g.base g.least has.is_log has.ends (kept_are_within log [] g.least (now history).crash_states g.kept.keeps.keeps)))
      g.kept.synced

  -- the run with the event
  guarded_event : (st : Standing) (log : Log) (start : History) (old new : History) (buffer other : LogBuffer D) (journal : List Event) (event : Event) (more : List (List Change)) (grown : Log)
      (logged cut : List (List Change)) →
      (g : IsGuardedLog st log start old buffer journal) → IsAttemptedBy st g.kept.first g.base g.least journal event more grown logged cut → IsGrownFrom g.base log grown → (after_events st journal).fault ≡ None →
      KeptThrough old new grown [] g.least → KeepsRead grown [] g.least (now new) →
      ((after_event (after_events st journal) event).fault ≡ None → IsKeeping (now new) other grown g.least g.begun × (answers_some is_disk_fault event ≡ false)) →
      ((after_event (after_events st journal) event).fault ≡ None → CoversSync (after_events st journal).begun g.base grown g.begun) →
      ((after_event (after_events st journal) event).fault ≡ None → cut ≡ []) →
      (has_failed other ≡ false → (after_event (after_events st journal) event).fault ≡ None) →
      ((after_event (after_events st journal) event).fault ≡ None → KeepsSizes g.most (now start).reads other grown) →
      IsGuardedLog st grown start new other (journal ++ event ∷ [])
  guarded_event st log start old new buffer other journal event more grown logged cut g is grows before through keeps works covers whole stops sizes =
      let then_ : after_events st (journal ++ event ∷ []) ≡ after_event (after_events st journal) event = after_events-append st journal (event ∷ []) in
      let out : (after_events st (journal ++ event ∷ [])).begun ≡ (after_events st journal).begun =
      ap (λ (s : Standing). s.begun) then_ ∙ stays_out (after_events st journal) event is.other in
      let attempts : attempts_of st (journal ++ event ∷ []) ≡ attempts_of st journal ++ more =
      attempts-push st journal event ∙ ap (λ (l : List (List Change)). attempts_of st journal ++ l) is.more_is in
      let low = is.durable in
      guarded_on st log grown start old new buffer other journal event g.begun g.least logged cut g is.recovers grows (attempts ∙ is.attempts)
      through is.synced (omega arith) keeps (omega (arith, low))
      (λ fault. (works (sym (ap (λ (s : Standing). s.fault) then_) ∙ fault)).0)
      (λ fault. subst (λ (n : Option ℕ). CoversSync n g.base grown g.begun) (sym out) (covers (sym (ap (λ (s : Standing). s.fault) then_) ∙ fault)))
      (λ fault. whole (sym (ap (λ (s : Standing). s.fault) then_) ∙ fault))
      (λ ok. ap (λ (s : Standing). s.fault) then_ ∙ stops ok)
      (λ fault. (before, (works (sym (ap (λ (s : Standing). s.fault) then_) ∙ fault)).1))
      (goes_freely st log start old new buffer journal g before)
      (λ fault. sizes (sym (ap (λ (s : Standing). s.fault) then_) ∙ fault))

  -- an event that logs nothing
  pub guarded_idle : (history_of : D → History) (st : Standing) (log : Log) (start : History) (buffer other : LogBuffer D) (journal : List Event) (event : Event) → is_sync event ≡ false → IsUnchanged buffer other →
      (after_events st journal).fault ≡ None → attempt_of (after_events st journal) event ≡ [] → written_by event ≡ 0 → answers_some is_disk_fault event ≡ false →
      (after_event (after_events st journal) event).fault ≡ (after_events st journal).fault →
      IsGuardedLog st log start (history_of (disk_of buffer)) buffer journal → IsGuardedLog st log start (history_of (disk_of other)) other (journal ++ event ∷ [])
  guarded_idle history_of st log start buffer other journal event apart same before none durable calm fault g =
      guarded_quiet st log start (history_of (disk_of other)) other journal event apart none durable calm fault (guarded_along history_of st log start buffer other journal same g before)

  module _ (meaning : DiskMeaning D) where
    -- an event whose entries the log got, whatever sync is out
    pub guarded_grown : (st : Standing) (log : Log) (start : History) (buffer other : LogBuffer D) (journal : List Event) (event : Event) (more : List (List Change)) (entries : List Entry) →
        meaning.observable ≡ true → (g : IsGuardedLog st log start (meaning.history (disk_of buffer)) buffer journal) → IsLoggedBy st journal event more →
        Grew meaning buffer other entries →
        RecoversLog g.kept.first st.store g.base (g.kept.logged ++ more) (longer buffer entries log) →
        IsGuardedLog st (longer buffer entries log) start (meaning.history (disk_of other)) other (journal ++ event ∷ [])
    guarded_grown st log start buffer other journal event more entries observed g by grew recovers =
        let keeping : IsKeeping (now (meaning.history (disk_of buffer))) buffer log g.least g.begun = g.works by.before in
        let has = as_observed meaning.observable (now (meaning.history (disk_of buffer))) buffer log observed keeping.has in
        let kept : IsKeeping (now (meaning.history (disk_of other))) other (longer buffer entries log) g.least g.begun = record {
          has = of_observed meaning.observable (now (meaning.history (disk_of other))) other (longer buffer entries log) observed (grew.log log has);
          holds = grew.holds observed log [] g.least g.begun has keeping.holds;
        } in
        guarded_event st log start (meaning.history (disk_of buffer)) (meaning.history (disk_of other)) buffer other journal event more (longer buffer entries log) (g.kept.logged ++ more) [] g
        (record {
          other = by.other;
          more_is = by.more_is;
          durable = by.durable;
          recovers = recovers;
          attempts = ap (λ (l : List (List Change)). l ++ more) (all_logged st log start (meaning.history (disk_of buffer)) buffer journal g by.before) ∙ sym (append-nil (g.kept.logged ++ more));
          synced = synced_grown st log start (meaning.history (disk_of buffer)) buffer journal entries g keeping.has;
        })
        (grown_longer (now (meaning.history (disk_of buffer))) buffer log g.base entries keeping.has)
        by.before (grew.crash observed log [] g.least g.begun has keeping.holds) (keeping_read (now (meaning.history (disk_of other))) other (longer buffer entries log) g.least g.begun kept)
        (λ fault. (kept, by.calm))
        (λ fault. covers_grown (after_events st journal).begun g.base log (longer buffer entries log) g.begun (grown_longer (now (meaning.history (disk_of buffer))) buffer log g.base entries keeping.has) (g.covers by.before))
        (λ fault. refl) (λ ok. by.after)
        (λ fault. sizes_more g.most (now start).reads buffer other log entries grew.max keeping.has.is_log keeping.has.ends (g.sizes by.before))

    -- an event behind whose first entries the disk failed; the log recovers all that was attempted, or all but these
    pub guarded_tried : (st : Standing) (log : Log) (start : History) (buffer other : LogBuffer D) (journal : List Event) (event : Event) (more : List (List Change)) (front : List Entry) →
        meaning.observable ≡ true → (g : IsGuardedLog st log start (meaning.history (disk_of buffer)) buffer journal) → IsFailedBy st journal event more →
        Tried meaning buffer other front →
        RecoversLog g.kept.first st.store g.base g.kept.logged (longer buffer front log) ⊎ RecoversLog g.kept.first st.store g.base (g.kept.logged ++ more) (longer buffer front log) →
        IsGuardedLog st (longer buffer front log) start (meaning.history (disk_of other)) other (journal ++ event ∷ [])
    guarded_tried st log start buffer other journal event more front observed g by tried recovers = by_recovered recovers
      where
        old : History
        old = meaning.history (disk_of buffer)

        new : History
        new = meaning.history (disk_of other)

        grown : Log
        grown = longer buffer front log

        keeping : IsKeeping (now old) buffer log g.least g.begun
        keeping = g.works by.before

        through : KeptThrough old new grown [] g.least
        through = tried.crash observed log [] g.least g.begun (as_observed meaning.observable (now old) buffer log observed keeping.has) keeping.holds

        before_it : attempts_of st journal ≡ g.kept.logged
        before_it = all_logged st log start old buffer journal g by.before

        on : (logged cut : List (List Change)) → RecoversLog g.kept.first st.store g.base logged grown → g.kept.logged ++ more ≡ logged ++ cut → IsGuardedLog st grown start new other (journal ++ event ∷ [])
        on logged cut recovers_these all =
            guarded_event st log start old new buffer other journal event more grown logged cut g
            (record {
              other = by.other;
              more_is = by.more_is;
              durable = by.durable;
              recovers = recovers_these;
              attempts = ap (λ (l : List (List Change)). l ++ more) before_it ∙ all;
              synced = synced_grown st log start old buffer journal front g keeping.has;
            })
            (grown_longer (now old) buffer log g.base front keeping.has)
            by.before through
            (passes_now old new (KeepsRead grown [] g.least) (read_through grown [] g.least old new through)
            (read_with_all log [] (end_of buffer) (file_max_of buffer) g.least front (now old) (ends_in log (end_of buffer) (last_of buffer) keeping.has.is_log keeping.has.ends) g.kept.keeps))
            (λ fault. absurd (by.after fault)) (λ fault. absurd (by.after fault)) (λ fault. absurd (by.after fault)) (λ ok. (let failed = tried.failed in absurd cc)) (λ fault. absurd (by.after fault))

        by_recovered : RecoversLog g.kept.first st.store g.base g.kept.logged grown ⊎ RecoversLog g.kept.first st.store g.base (g.kept.logged ++ more) grown →
            IsGuardedLog st grown start new other (journal ++ event ∷ [])
        by_recovered (inl less) = on g.kept.logged more less refl
        by_recovered (inr whole) = on (g.kept.logged ++ more) [] whole (sym (append-nil (g.kept.logged ++ more)))

    -- ---- changes and commits, where a log gives the records

    -- a buffer's log, and the one that is guarded
    same_log : (st : Standing) (log given : Log) (start : History) (buffer : LogBuffer D) (journal : List Event) (rows : Rows) (last_txn last_db : ℕ) (is_active : ℕ → Bool) (own : ℕ → List OwnChange) →
        meaning.observable ≡ true → (g : IsGuardedLog st log start (meaning.history (disk_of buffer)) buffer journal) → (after_events st journal).fault ≡ None →
        HasGiven meaning buffer given rows last_txn last_db is_active own → HasGiven meaning buffer log rows last_txn last_db is_active own
    same_log st log given start buffer journal rows last_txn last_db is_active own observed g none h =
        let state : State = now (meaning.history (disk_of buffer)) in
        subst (λ (l : Log). HasGiven meaning buffer l rows last_txn last_db is_active own)
        (one_log state buffer given log (of_observed meaning.observable state buffer given observed h.has) (g.works none).has) h

    -- an event that logs changes of a transaction under way, and no commit
    pub guarded_changes : (st : Standing) (log given : Log) (start : History) (buffer other : LogBuffer D) (journal : List Event) (event : Event) (rows : Rows) (last_txn last_db : ℕ) (is_active : ℕ → Bool)
        (own : ℕ → List OwnChange) (t : TxnId) (changes : List TreeChange) → meaning.observable ≡ true → IsGuardedLog st log start (meaning.history (disk_of buffer)) buffer journal → IsLoggedBy st journal event [] →
        HasGiven meaning buffer given rows last_txn last_db is_active own → MayAddChanges last_txn is_active own t changes →
        (a : HasAdded meaning buffer other (LogsChanges t changes)) →
        IsGuardedLog st (longer buffer a.entries log) start (meaning.history (disk_of other)) other (journal ++ event ∷ [])
    guarded_changes st log given start buffer other journal event rows last_txn last_db is_active own t changes observed g by h may a =
        guarded_grown st log start buffer other journal event [] a.entries observed g by a.grew
        (subst (λ (l : List (List Change)). RecoversLog g.kept.first st.store g.base l (longer buffer a.entries log)) (sym (append-nil g.kept.logged))
        (changes_are_recovered meaning buffer other log rows last_txn last_db is_active own t changes g.kept.first st.store g.base g.kept.logged
        (same_log st log given start buffer journal rows last_txn last_db is_active own observed g by.before h) may a g.kept.recovers))

    -- one whose changes met a fault of the disk
    pub guarded_changes_fault : (st : Standing) (log given : Log) (start : History) (buffer other : LogBuffer D) (journal : List Event) (event : Event) (rows : Rows) (last_txn last_db : ℕ) (is_active : ℕ → Bool)
        (own : ℕ → List OwnChange) (t : TxnId) (changes : List TreeChange) → meaning.observable ≡ true → IsGuardedLog st log start (meaning.history (disk_of buffer)) buffer journal → IsFailedBy st journal event [] →
        HasGiven meaning buffer given rows last_txn last_db is_active own → MayAddChanges last_txn is_active own t changes →
        (f : HasFailed meaning buffer other (LogsChanges t changes)) →
        IsGuardedLog st (longer buffer f.front log) start (meaning.history (disk_of other)) other (journal ++ event ∷ [])
    guarded_changes_fault st log given start buffer other journal event rows last_txn last_db is_active own t changes observed g by h may f =
        guarded_tried st log start buffer other journal event [] f.front observed g by f.tried
        (inl (tried_changes_are_recovered meaning buffer other log rows last_txn last_db is_active own t changes g.kept.first st.store g.base g.kept.logged
        (same_log st log given start buffer journal rows last_txn last_db is_active own observed g by.before h) may f g.kept.recovers))

    -- an event that commits a transaction
    pub guarded_commit : (st : Standing) (log given : Log) (start : History) (buffer other : LogBuffer D) (journal : List Event) (event : Event) (rows after : Rows) (last_txn last_db later_db : ℕ)
        (is_active : ℕ → Bool) (own : ℕ → List OwnChange) (goes : ℕ → Bool) (t : TxnId) (had : List OwnChange) (changes : List TreeChange) (committed : List Change) → meaning.observable ≡ true →
        IsGuardedLog st log start (meaning.history (disk_of buffer)) buffer journal → IsLoggedBy st journal event (committed ∷ []) →
        HasGiven meaning buffer given rows last_txn last_db is_active own → MayCommit last_txn is_active own rows after last_db later_db goes t had changes →
        store_of after ≡ all_changed committed (store_of rows) →
        (a : HasAdded meaning buffer other (LogsTransaction t changes)) →
        IsGuardedLog st (longer buffer a.entries log) start (meaning.history (disk_of other)) other (journal ++ event ∷ [])
    guarded_commit st log given start buffer other journal event rows after last_txn last_db later_db is_active own goes t had changes committed observed g by h may store a =
        guarded_grown st log start buffer other journal event (committed ∷ []) a.entries observed g by a.grew
        (commit_is_recovered meaning buffer other log rows after last_txn last_db later_db is_active own goes t had changes committed g.kept.first st.store g.base g.kept.logged
        (same_log st log given start buffer journal rows last_txn last_db is_active own observed g by.before h) may store a g.kept.recovers)

    -- one whose commit met a fault of the disk
    pub guarded_commit_fault : (st : Standing) (log given : Log) (start : History) (buffer other : LogBuffer D) (journal : List Event) (event : Event) (rows after : Rows) (last_txn last_db later_db : ℕ)
        (is_active : ℕ → Bool) (own : ℕ → List OwnChange) (goes : ℕ → Bool) (t : TxnId) (had : List OwnChange) (changes : List TreeChange) (committed : List Change) → meaning.observable ≡ true →
        IsGuardedLog st log start (meaning.history (disk_of buffer)) buffer journal → IsFailedBy st journal event (committed ∷ []) →
        HasGiven meaning buffer given rows last_txn last_db is_active own → MayCommit last_txn is_active own rows after last_db later_db goes t had changes →
        store_of after ≡ all_changed committed (store_of rows) →
        (f : HasFailed meaning buffer other (LogsTransaction t changes)) →
        IsGuardedLog st (longer buffer f.front log) start (meaning.history (disk_of other)) other (journal ++ event ∷ [])
    guarded_commit_fault st log given start buffer other journal event rows after last_txn last_db later_db is_active own goes t had changes committed observed g by h may store f =
        guarded_tried st log start buffer other journal event (committed ∷ []) f.front observed g by f.tried
        (tried_commit_is_recovered meaning buffer other log rows after last_txn last_db later_db is_active own goes t had changes committed g.kept.first st.store g.base
        g.kept.logged (same_log st log given start buffer journal rows last_txn last_db is_active own observed g by.before h) may store f g.kept.recovers)

    -- ---- whatever log the buffer has

    given_log : (state : State) (log given : Log) (buffer : LogBuffer D) (rows : Rows) (last_txn last_db : ℕ) (is_active : ℕ → Bool) (own : ℕ → List OwnChange) → meaning.observable ≡ true →
        state ≡ now (meaning.history (disk_of buffer)) → HasLog meaning.observable state buffer log → HasGiven meaning buffer given rows last_txn last_db is_active own →
        HasGiven meaning buffer log rows last_txn last_db is_active own
    given_log state log given buffer rows last_txn last_db is_active own observed here has h =
        let there : HasLog meaning.observable (now (meaning.history (disk_of buffer))) buffer log = subst (λ (s : State). HasLog meaning.observable s buffer log) here has in
        subst (λ (l : Log). HasGiven meaning buffer l rows last_txn last_db is_active own)
        (one_log (now (meaning.history (disk_of buffer))) buffer given log (of_observed meaning.observable (now (meaning.history (disk_of buffer))) buffer given observed h.has)
        (of_observed meaning.observable (now (meaning.history (disk_of buffer))) buffer log observed there)) h

    -- what it recovers with changes of a transaction under way
    pub changes_recovered_in : (given : Log) (buffer other : LogBuffer D) (rows : Rows) (last_txn last_db : ℕ) (is_active : ℕ → Bool) (own : ℕ → List OwnChange) (t : TxnId) (changes : List TreeChange) →
        HasGiven meaning buffer given rows last_txn last_db is_active own → MayAddChanges last_txn is_active own t changes →
        (a : HasAdded meaning buffer other (LogsChanges t changes)) →
        meaning.observable ≡ true → (log : Log) → HasLog meaning.observable (now (meaning.history (disk_of buffer))) buffer log → (first : ℕ) (opening : Store) (base : ℕ) (transactions : List (List Change)) →
        RecoversLog first opening base transactions log → RecoversLog first opening base (transactions ++ []) (longer buffer a.entries log)
    changes_recovered_in given buffer other rows last_txn last_db is_active own t changes h may a observed log has first opening base transactions is =
        subst (λ (l : List (List Change)). RecoversLog first opening base l (longer buffer a.entries log)) (sym (append-nil transactions))
        (changes_are_recovered meaning buffer other log rows last_txn last_db is_active own t changes first opening base transactions
        (given_log (now (meaning.history (disk_of buffer))) log given buffer rows last_txn last_db is_active own observed refl has h) may a is)

    pub tried_changes_recovered_in : (given : Log) (buffer other : LogBuffer D) (rows : Rows) (last_txn last_db : ℕ) (is_active : ℕ → Bool) (own : ℕ → List OwnChange) (t : TxnId) (changes : List TreeChange) →
        HasGiven meaning buffer given rows last_txn last_db is_active own → MayAddChanges last_txn is_active own t changes →
        (f : HasFailed meaning buffer other (LogsChanges t changes)) →
        meaning.observable ≡ true → (log : Log) → HasLog meaning.observable (now (meaning.history (disk_of buffer))) buffer log → (first : ℕ) (opening : Store) (base : ℕ) (transactions : List (List Change)) →
        RecoversLog first opening base transactions log → RecoversLog first opening base (transactions ++ []) (longer buffer f.front log)
    tried_changes_recovered_in given buffer other rows last_txn last_db is_active own t changes h may f observed log has first opening base transactions is =
        subst (λ (l : List (List Change)). RecoversLog first opening base l (longer buffer f.front log)) (sym (append-nil transactions))
        (tried_changes_are_recovered meaning buffer other log rows last_txn last_db is_active own t changes first opening base transactions
        (given_log (now (meaning.history (disk_of buffer))) log given buffer rows last_txn last_db is_active own observed refl has h) may f is)

    -- and with a commit
    pub commit_recovered_in : (given : Log) (buffer other : LogBuffer D) (rows after : Rows) (last_txn last_db later_db : ℕ) (is_active : ℕ → Bool) (own : ℕ → List OwnChange) (goes : ℕ → Bool) (t : TxnId)
        (had : List OwnChange) (changes : List TreeChange) (committed : List Change) → HasGiven meaning buffer given rows last_txn last_db is_active own →
        MayCommit last_txn is_active own rows after last_db later_db goes t had changes → store_of after ≡ all_changed committed (store_of rows) →
        (a : HasAdded meaning buffer other (LogsTransaction t changes)) →
        meaning.observable ≡ true → (log : Log) → HasLog meaning.observable (now (meaning.history (disk_of buffer))) buffer log → (first : ℕ) (opening : Store) (base : ℕ) (transactions : List (List Change)) →
        RecoversLog first opening base transactions log → RecoversLog first opening base (transactions ++ committed ∷ []) (longer buffer a.entries log)
    commit_recovered_in given buffer other rows after last_txn last_db later_db is_active own goes t had changes committed h may store a observed log has first opening base transactions is =
        commit_is_recovered meaning buffer other log rows after last_txn last_db later_db is_active own goes t had changes committed first opening base transactions
        (given_log (now (meaning.history (disk_of buffer))) log given buffer rows last_txn last_db is_active own observed refl has h) may store a is

    -- where the disk failed, by how much of it was appended: a front without the Commit, or all
    pub tried_commit_recovered_in : (given : Log) (buffer other : LogBuffer D) (rows after : Rows) (last_txn last_db later_db : ℕ) (is_active : ℕ → Bool) (own : ℕ → List OwnChange) (goes : ℕ → Bool) (t : TxnId)
        (had : List OwnChange) (changes : List TreeChange) (committed : List Change) → HasGiven meaning buffer given rows last_txn last_db is_active own →
        MayCommit last_txn is_active own rows after last_db later_db goes t had changes → store_of after ≡ all_changed committed (store_of rows) →
        (f : HasFailed meaning buffer other (LogsTransaction t changes)) →
        (meaning.observable ≡ true → (log : Log) → HasLog meaning.observable (now (meaning.history (disk_of buffer))) buffer log → (first : ℕ) (opening : Store) (base : ℕ) (transactions : List (List Change)) →
        RecoversLog first opening base transactions log → RecoversLog first opening base (transactions ++ []) (longer buffer f.front log))
        ⊎ (meaning.observable ≡ true → (log : Log) → HasLog meaning.observable (now (meaning.history (disk_of buffer))) buffer log → (first : ℕ) (opening : Store) (base : ℕ) (transactions : List (List Change)) →
        RecoversLog first opening base transactions log → RecoversLog first opening base (transactions ++ committed ∷ []) (longer buffer f.front log))
    tried_commit_recovered_in given buffer other rows after last_txn last_db later_db is_active own goes t had changes committed h may store f =
        by_case (tried_commit_decided meaning buffer other rows after last_txn last_db later_db is_active own goes t had changes committed may store f)
      where
        same : meaning.observable ≡ true → (log : Log) → HasLog meaning.observable (now (meaning.history (disk_of buffer))) buffer log → HasGiven meaning buffer log rows last_txn last_db is_active own
        same observed log has = given_log (now (meaning.history (disk_of buffer))) log given buffer rows last_txn last_db is_active own observed refl has h

        by_case : ((l : Log) → HasGiven meaning buffer l rows last_txn last_db is_active own → (x : ℕ) (o : Store) (b : ℕ) (ts : List (List Change)) →
            RecoversLog x o b ts l → RecoversLog x o b ts (longer buffer f.front l))
            ⊎ ((l : Log) → HasGiven meaning buffer l rows last_txn last_db is_active own → (x : ℕ) (o : Store) (b : ℕ) (ts : List (List Change)) →
            RecoversLog x o b ts l → RecoversLog x o b (ts ++ committed ∷ []) (longer buffer f.front l)) →
            (meaning.observable ≡ true → (log : Log) → HasLog meaning.observable (now (meaning.history (disk_of buffer))) buffer log → (first : ℕ) (opening : Store) (base : ℕ) (transactions : List (List Change)) →
            RecoversLog first opening base transactions log → RecoversLog first opening base (transactions ++ []) (longer buffer f.front log))
            ⊎ (meaning.observable ≡ true → (log : Log) → HasLog meaning.observable (now (meaning.history (disk_of buffer))) buffer log → (first : ℕ) (opening : Store) (base : ℕ) (transactions : List (List Change)) →
            RecoversLog first opening base transactions log → RecoversLog first opening base (transactions ++ committed ∷ []) (longer buffer f.front log))
        by_case (inl less) = inl
            (λ observed log has first opening base transactions is.
            subst (λ (l : List (List Change)). RecoversLog first opening base l (longer buffer f.front log)) (sym (append-nil transactions)) (less log (same observed log has) first opening base transactions is))
        by_case (inr all) = inr (λ observed log has first opening base transactions is. all log (same observed log has) first opening base transactions is)
