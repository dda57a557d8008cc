-- A guarded run goes on by a write of all that was appended.
use Rattle.std.proofs.Common.{◌≡◌, ℕ, ◌≤◌, inr, Bool, true, List, [], ◌∷◌, ◌++◌, None, length, refl, ap, sym, ◌∙◌, subst, arith}
use Rattle.std.proofs.lemmas.List.{append-nil}
use Rattle.je_disk.specs.DiskMeaning.{DiskMeaning}
use Rattle.je_disk.specs.States.{State}
use Rattle.je_disk.specs.Moments.{History, now}
use Rattle.store_model.specs.declared.answer.Answer.TheVariants.{Durable, DiskFault}
use Rattle.store_model.specs.declared.change.Change.{Change}
use Rattle.store_model.specs.declared.event.Event.{Event}
use Rattle.store_model.specs.declared.event.Event.TheVariants.{WriteOut}
use Rattle.je_answers.specs.Standing.{Standing}
use Rattle.je_answers.specs.After.{after_events}
use Rattle.je_answers.specs.Journal.{attempts_of}
use Rattle.je_answers.specs.Written.{written_of}
use Rattle.je_answers.proofs.Journals.{after_events-append}
use Rattle.log_file.specs.Log.{Log, entries_of}
use Rattle.log_buffer.specs.declared.buffer.LogBuffer.{LogBuffer}
use Rattle.log_buffer.specs.declared.log_pos.LogPos.{LogPos}
use Rattle.log_buffer.specs.Buffer.{disk_of}
use Rattle.log_buffer.specs.Crash.{KeepsRead, KeptThrough}
use Rattle.log_buffer.specs.Growth.{Grew, Tried}
use Rattle.log_buffer.specs.Log.{HasLog, ReadAs}
use Rattle.log_buffer.proofs.Staying.{read_through}
use Rattle.log_buffer.proofs.WrittenLaws.{all_are_written}
use Rattle.log_replay.specs.Rows.{Rows}
use Rattle.log_trees.specs.Placed.{placed}
use Rattle.log_meaning.specs.Recovery.{commits_in}
use Rattle.log_meaning.proofs.Leaving.{commits_rise}
use Rattle.crash_recovery.proofs.Commits.{all_are_committed}
use Rattle.txn_log.specs.Own.{OwnChange}
use Rattle.txn_log.specs.Buffers.{HasGiven}
use Rattle.txn_log.specs.Gives.{GivesRecordsWith}
use Rattle.engine.specs.Guarded.{CoversSync, IsGuardedLog, IsKeeping, IsRead}
use Rattle.engine.proofs.GuardLaws.{goes_freely, guarded_same, keeping_read}
use Rattle.engine.proofs.LengthLaws.{sizes_other}
use Rattle.engine.proofs.ObservedLaws.{as_observed, of_observed}
use Rattle.engine.proofs.SafeLaws.{as_many, attempts-push, grown_same, guarded_by, written-push}
use Rattle.engine.proofs.SyncLaws.{commits_attempted, passes_now}

module _ {D : Type 0} where
  -- where a disk reads a whole guarded log, the commits so far are written
  all_read : (st : Standing) (log : Log) (start : History) (old : History) (state : State) (commits : ℕ) (buffer other : LogBuffer D) (journal : List Event) → (after_events st journal).fault ≡ None →
      commits ≡ (after_events st journal).commits → (g : IsGuardedLog st log start old buffer journal) → HasLog true state other log → ReadAs true state.reads log →
      IsRead g.base log g.least state (journal ++ WriteOut (Durable commits) ∷ [])
  all_read st log start old state commits buffer other journal none count g has reads =
      let few = commits_attempted st journal g.none_before in
      let all : length (attempts_of st journal) ≡ length g.kept.logged =
      ap (λ (l : List (List Change)). length l) (g.kept.attempts ∙ ap (λ (l : List (List Change)). g.kept.logged ++ l) (g.all none) ∙ append-nil g.kept.logged) in
      let committed = all_are_committed g.kept.first st.store g.base g.kept.logged log g.kept.recovers in
      let read = g.kept.read in
      let inside : read.written ≤ length (entries_of log) = read.within in
      let before : written_of journal ≤ commits_in g.base read.written (placed log) = read.count in
      let up = commits_rise g.base read.written (length (entries_of log)) (placed log) read.from inside (omega (arith, as_many log)) in
      record {
        written = length (entries_of log);
        from = committed.0;
        within = omega arith;
        count = omega (arith, written-push journal (WriteOut (Durable commits)), few, all, committed.1, count, before, up);
        holds = inr (all_are_written log state.reads has.is_log (reads refl));
      }

  module _ (meaning : DiskMeaning D) where
    -- all that was appended was written out: from then on the disk reads the commits so far
    pub written_safely : (st : Standing) (log : Log) (start : History) (commits : ℕ) (buffer other : LogBuffer D) (journal : List Event) → meaning.observable ≡ true → (after_events st journal).fault ≡ None →
        commits ≡ (after_events st journal).commits → IsGuardedLog st log start (meaning.history (disk_of buffer)) buffer journal → Grew meaning buffer other [] →
        ((l : Log) → HasLog meaning.observable (now (meaning.history (disk_of buffer))) buffer l → ReadAs meaning.observable (now (meaning.history (disk_of other))).reads l) →
        IsGuardedLog st log start (meaning.history (disk_of other)) other (journal ++ WriteOut (Durable commits) ∷ [])
    written_safely st log start commits buffer other journal observed none count g grew whole =
        let old : History = meaning.history (disk_of buffer) in
        let new : History = meaning.history (disk_of other) in
        let event : Event = WriteOut (Durable commits) in
        let keeping : IsKeeping (now old) buffer log g.least g.begun = g.works none in
        let has = as_observed meaning.observable (now old) buffer log observed keeping.has in
        let kept : IsKeeping (now new) other log g.least g.begun = record {
          has = of_observed meaning.observable (now new) other log observed (grew.log log has);
          holds = grew.holds observed log [] g.least g.begun has keeping.holds;
        } in
        let keeps : KeepsRead log [] g.least (now new) = keeping_read (now new) other log g.least g.begun kept in
        let then_ : after_events st (journal ++ event ∷ []) ≡ after_events st journal = after_events-append st journal (event ∷ []) in
        let attempts : attempts_of st (journal ++ event ∷ []) ≡ g.kept.logged ++ g.kept.cut = attempts-push st journal event ∙ append-nil (attempts_of st journal) ∙ g.kept.attempts in
        let read : IsRead g.base log g.least (now new) (journal ++ event ∷ []) =
        all_read st log start old (now new) commits buffer other journal none count g kept.has
        (subst (λ (b : Bool). ReadAs b (now new).reads log) observed (whole log has)) in
        guarded_by st log log start old new buffer other journal event g.begun g.least g.kept.logged g.kept.cut g g.kept.recovers (grown_same g.base log) attempts
        (grew.crash observed log [] g.least g.begun has keeping.holds) g.kept.synced (omega arith) keeps (omega arith) read
        (λ fault. kept) (λ fault. subst (λ (t : Standing). CoversSync t.begun g.base log g.begun) (sym then_) (g.covers none)) (λ fault. g.all none) (λ ok. ap (λ (s : Standing). s.fault) then_ ∙ none) (λ fault. (none, refl))
        (goes_freely st log start old new buffer journal g none)
        (λ fault. sizes_other g.most (now start).reads buffer other log grew.max (g.sizes none))

    -- the disk failed meanwhile
    pub not_written_safely : (st : Standing) (log : Log) (start : History) (buffer other : LogBuffer D) (journal : List Event) → meaning.observable ≡ true → (after_events st journal).fault ≡ None →
        IsGuardedLog st log start (meaning.history (disk_of buffer)) buffer journal → Tried meaning buffer other [] →
        IsGuardedLog st log start (meaning.history (disk_of other)) other (journal ++ WriteOut DiskFault ∷ [])
    not_written_safely st log start buffer other journal observed none g tried =
        let old : History = meaning.history (disk_of buffer) in
        let new : History = meaning.history (disk_of other) in
        let keeping : IsKeeping (now old) buffer log g.least g.begun = g.works none in
        let through : KeptThrough old new log [] g.least = tried.crash observed log [] g.least g.begun (as_observed meaning.observable (now old) buffer log observed keeping.has) keeping.holds in
        let failed = tried.failed in
        guarded_same st log start old new buffer other journal (WriteOut DiskFault) g.begun g.least g refl through (omega arith)
        (passes_now old new (KeepsRead log [] g.least) (read_through log [] g.least old new through) g.kept.keeps) (omega arith)
        (λ fault. absurd cc) (λ fault. absurd cc) (λ ok. absurd cc) (λ fault. absurd cc) (goes_freely st log start old new buffer journal g none) (λ fault. absurd cc)

    -- where the log got nothing it gives what it did
    pub given_on : (buffer other : LogBuffer D) (log : Log) (rows : Rows) (last_txn last_db : ℕ) (is_active : ℕ → Bool) (own : ℕ → List OwnChange) → Grew meaning buffer other [] →
        HasGiven meaning buffer log rows last_txn last_db is_active own → HasGiven meaning other log rows last_txn last_db is_active own
    given_on buffer other log rows last_txn last_db is_active own grew h = record {
      has = grew.log log h.has;
      gives = subst (λ (e : LogPos). GivesRecordsWith log e rows last_txn last_db is_active own) (sym grew.end) h.gives;
    }
