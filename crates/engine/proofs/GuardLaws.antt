-- A guarded run goes on by one event.
use Rattle.std.proofs.Common.{◌≡◌, ℕ, ◌≤◌, true, false, true≢false, List, [], ◌∷◌, ◌++◌, Option, None, refl, ap, sym, ◌∙◌, subst, arith}
use Rattle.std.proofs.lemmas.List.{append-nil}
use Rattle.je_disk.specs.States.{Files, State}
use Rattle.je_disk.specs.Moments.{History, now}
use Rattle.store_model.specs.declared.change.Change.{Change}
use Rattle.store_model.specs.declared.event.Event.{Event}
use Rattle.je_answers.specs.Standing.{Standing}
use Rattle.je_answers.specs.After.{after_event, after_events}
use Rattle.je_answers.specs.Journal.{answers_some, attempt_of, attempts_of, has_answer, is_disk_fault}
use Rattle.je_answers.specs.Written.{written_by}
use Rattle.je_answers.proofs.Journals.{after_events-append}
use Rattle.log_file.specs.Log.{Log, AreFiles, files_of_log}
use Rattle.log_file.proofs.FilesLaws.{are_encoded_files, logs_are_found, encoded_files}
use Rattle.log_buffer.specs.declared.buffer.LogBuffer.{LogBuffer}
use Rattle.log_buffer.specs.Buffer.{disk_of, first_of, has_failed, IsUnchanged}
use Rattle.log_buffer.specs.Crash.{Holds, KeepsRead, KeptThrough}
use Rattle.log_buffer.specs.Log.{HasLog}
use Rattle.log_buffer.proofs.BufferLog.{log_kept}
use Rattle.log_buffer.proofs.Prefixes.{observed_prefixes}
use Rattle.log_trees.specs.Placed.{placed}
use Rattle.log_meaning.specs.Recovery.{commits_in}
use Rattle.engine.specs.Lengths.{KeepsSizes}
use Rattle.engine.specs.Guarded.{CoversSync, IsKeeping, IsGuardedLog}
use Rattle.engine.specs.Syncs.{is_sync}
use Rattle.engine.proofs.Begun.{stays_out}
use Rattle.engine.proofs.SafeLaws.{guarded_on, grown_same, attempts-push}

-- ---- one log

module _ {D : Type 0} where
  -- what a buffer has over an observable disk is one log
  pub one_log : (state : State) (buffer : LogBuffer D) (a b : Log) → HasLog true state buffer a → HasLog true state buffer b → a ≡ b
  one_log state buffer a b has_a has_b =
      let reads : Files = files_of_log a in
      let are : AreFiles reads (encoded_files a) = are_encoded_files reads a has_a.is_log.rising (λ f. refl) in
      sym (logs_are_found reads (encoded_files a) a has_a.is_log are (λ f. refl))
      ∙ logs_are_found reads (encoded_files a) b has_b.is_log are (λ f. sym (has_a.observed refl f) ∙ has_b.observed refl f)

  -- what a crash keeps of a buffer's log
  pub keeping_read : (state : State) (buffer : LogBuffer D) (log : Log) (least : ℕ) (begun : Option ℕ) → IsKeeping state buffer log least begun → KeepsRead log [] least state
  keeping_read state buffer log least begun keeping = record { keeps = keeping.holds.kept.keeps; read = keeping.holds.kept.read; prefixes = observed_prefixes true state buffer log refl keeping.has }

  -- a buffer keeps its log, whatever is said of a sync that is out
  pub keeping_any : (state : State) (buffer : LogBuffer D) (log : Log) (least : ℕ) (begun : Option ℕ) → IsKeeping state buffer log least begun → IsKeeping state buffer log least None
  keeping_any state buffer log least begun keeping = record { has = keeping.has; holds = record { kept = keeping.holds.kept; job = tt } }

  -- a buffer that is unchanged keeps its log
  pub keeping_unchanged : (state_of : D → State) (old new : LogBuffer D) (log : Log) (least : ℕ) (begun : Option ℕ) → IsUnchanged old new →
      IsKeeping (state_of (disk_of old)) old log least begun → IsKeeping (state_of (disk_of new)) new log least begun
  keeping_unchanged state_of old new log least begun same keeping = record {
    has = subst (λ (d : D). HasLog true (state_of d) new log) (sym same.disk) (log_kept true (state_of (disk_of old)) old new log same.kept keeping.has);
    holds = subst (λ (d : D). Holds log [] least begun (first_of new) (state_of d)) (sym same.disk)
        (subst (λ (n : ℕ). Holds log [] least begun n (state_of (disk_of old))) (sym same.kept.first) keeping.holds);
  }

-- ---- events that leave the log

-- no time passes
pub passes_still : (history : History) (log : Log) (least : ℕ) → KeptThrough history history log [] least
passes_still history log least = record { later = omega arith; keeps = λ k within. refl; each = λ k above within. absurd (omega arith) }

module _ {D : Type 0} where
  -- an event that commits nothing leaves the log
  pub guarded_same : (st : Standing) (log : Log) (start : History) (old new : History) (buffer longer : LogBuffer D) (journal : List Event) (event : Event) (begun : Option ℕ) (least : ℕ) →
      (g : IsGuardedLog st log start old buffer journal) → attempt_of (after_events st journal) event ≡ [] →
      KeptThrough old new log [] g.least → g.least ≤ least → KeepsRead log [] least (now new) →
      written_by event ≤ commits_in g.base least (placed log) →
      ((after_event (after_events st journal) event).fault ≡ None → IsKeeping (now new) longer log least begun) →
      ((after_event (after_events st journal) event).fault ≡ None → CoversSync (after_event (after_events st journal) event).begun g.base log begun) →
      (has_failed longer ≡ false → (after_event (after_events st journal) event).fault ≡ None) →
      ((after_event (after_events st journal) event).fault ≡ None → ((after_events st journal).fault ≡ None) × (answers_some is_disk_fault event ≡ false)) →
      (has_answer is_disk_fault journal ≡ true → new.moment ≤ old.moment) →
      ((after_event (after_events st journal) event).fault ≡ None → KeepsSizes g.most (now start).reads longer log) →
      IsGuardedLog st log start new longer (journal ++ event ∷ [])
  guarded_same st log start old new buffer longer journal event begun least g none through rises keeps durable works covers stops quiet still sizes =
      let all : List Event = journal ++ event ∷ [] in
      let attempts : attempts_of st all ≡ g.kept.logged ++ g.kept.cut =
      attempts-push st journal event ∙ ap (λ (l : List (List Change)). attempts_of st journal ++ l) none ∙ append-nil (attempts_of st journal) ∙ g.kept.attempts in
      let stands : after_events st all ≡ after_event (after_events st journal) event = after_events-append st journal (event ∷ []) in
      guarded_on st log log start old new buffer longer journal event begun least g.kept.logged g.kept.cut g g.kept.recovers (grown_same g.base log) attempts
      through g.kept.synced rises keeps durable
      (λ fault. works (subst (λ (s : Standing). s.fault ≡ None) stands fault))
      (λ fault. subst (λ (s : Standing). CoversSync s.begun g.base log begun) (sym stands) (covers (subst (λ (s : Standing). s.fault ≡ None) stands fault)))
      (λ fault. g.all (quiet (subst (λ (s : Standing). s.fault ≡ None) stands fault)).0)
      (λ ok. subst (λ (s : Standing). s.fault ≡ None) (sym stands) (stops ok))
      (λ fault. quiet (subst (λ (s : Standing). s.fault ≡ None) stands fault))
      still
      (λ fault. sizes (subst (λ (s : Standing). s.fault ≡ None) stands fault))

  -- where no fault came before, time goes on
  pub goes_freely : (st : Standing) (log : Log) (start : History) (old new : History) (buffer : LogBuffer D) (journal : List Event) → IsGuardedLog st log start old buffer journal →
      (after_events st journal).fault ≡ None → has_answer is_disk_fault journal ≡ true → new.moment ≤ old.moment
  goes_freely st log start old new buffer journal g none fault = absurd (true≢false (sym fault ∙ g.faultless none))

  -- a call that commits nothing leaves the disk and the buffer as they were
  pub guarded_quiet : (st : Standing) (log : Log) (start : History) (history : History) (buffer : LogBuffer D) (journal : List Event) (event : Event) → is_sync event ≡ false →
      attempt_of (after_events st journal) event ≡ [] → written_by event ≡ 0 → answers_some is_disk_fault event ≡ false →
      (after_event (after_events st journal) event).fault ≡ (after_events st journal).fault → IsGuardedLog st log start history buffer journal →
      IsGuardedLog st log start history buffer (journal ++ event ∷ [])
  guarded_quiet st log start history buffer journal event other none durable calm fault g =
      guarded_same st log start history history buffer buffer journal event g.begun g.least g none
      (passes_still history log g.least) (omega arith) g.kept.keeps (omega (arith, durable))
      (λ valid. g.works (sym fault ∙ valid))
      (λ valid. subst (λ (n : Option ℕ). CoversSync n g.base log g.begun) (sym (stays_out (after_events st journal) event other)) (g.covers (sym fault ∙ valid)))
      (λ ok. fault ∙ g.stops ok)
      (λ valid. (sym fault ∙ valid, calm))
      (λ before. omega arith)
      (λ valid. g.sizes (sym fault ∙ valid))
