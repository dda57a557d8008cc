-- A run goes on by an event.
use Rattle.std.proofs.Common.{◌≡◌, ℕ, true, false, true≢false, Bool, [], ◌∷◌, ◌++◌, Option, None, Some, Result, Ok, Err, option_map, refl, ap, sym, ◌∙◌, subst}
use Rattle.std.specs.Option.{is_some}
use Rattle.std.specs.declared.alloc.AllocError.{AllocError}
use Rattle.je_disk.specs.DiskMeaning.{DiskMeaning}
use Rattle.je_disk.specs.Moments.{now}
use Rattle.je_disk.specs.States.{Files}
use Rattle.store_model.specs.declared.answer.Answer.{Answer}
use Rattle.store_model.specs.declared.answer.Answer.TheVariants.{Done, DiskFault}
use Rattle.store_model.specs.declared.answer.Fault.{Fault}
use Rattle.store_model.specs.declared.event.Event.{Event}
use Rattle.store_model.specs.declared.event.Event.TheVariants.{End, SyncBegin, SyncEnd}
use Rattle.store_model.specs.declared.store.Store.{Store}
use Rattle.je_answers.specs.Standing.{Standing}
use Rattle.je_answers.specs.Events.{IsAnswered, IsSyncBegun, IsSyncEnded}
use Rattle.je_answers.specs.After.{after_event, after_events, faulted_if}
use Rattle.je_answers.proofs.Journals.{after_events-append, answers-push}
use Rattle.engine.specs.Opening.{StartsAt}
use Rattle.engine.specs.Syncs.{is_sync}
use Rattle.environment.specs.declared.environment.Environment.{Environment}
use Rattle.environment.specs.declared.outcome.Outcome.{Outcome}
use Rattle.environment.specs.Whole.{BeginsSafely, BeginsSync, CanGoOn, EndsSync, GoesOn, GoesOnSafely, HasDone, IsAt, IsGuarded, IsOpened, IsOpenedSafely, disk_of}
use Rattle.shared_store.specs.declared.sync_out.SyncOut.{SyncOut}
use Rattle.shared_store.specs.Run.{HasRun}
use Rattle.shared_store.proofs.BegunLaws.{stays_out}

module _ {D : Type 0} (meaning : DiskMeaning D) where
  -- an event behind a run's journal, and the sync that is out then
  pub run_then : (old new : Environment D) (before out : Option SyncOut) (run : HasRun meaning old before) (event : Event) →
      HasDone run.most meaning.observable (now (meaning.history (disk_of new))) old new (after_events run.st run.journal) event →
      (meaning.observable ≡ true → IsGuarded run.most run.st run.start (meaning.history (disk_of new)) new (run.journal ++ event ∷ [])) → CanGoOn new →
      (after_event (after_events run.st run.journal) event).begun ≡ option_map (λ (o : SyncOut). o.commits) out → HasRun meaning new out
  run_then old new before out run event done guarded bounds sync =
      let stands = after_events-append run.st run.journal (event ∷ []) in
      record {
        most = run.most;
        st = run.st;
        start = run.start;
        journal = run.journal ++ event ∷ [];
        here = subst (λ (s : Standing). IsAt run.most meaning.observable (now (meaning.history (disk_of new))) new s) (sym stands) done.here;
        limits = run.limits ++ done.limit ∷ [];
        answers = answers-push run.st run.limits run.journal done.limit event run.answers done.answered;
        guarded = guarded;
        bounds = bounds;
        sync = ap (λ (s : Standing). s.begun) stands ∙ sync;
      }

  -- one that begins and ends no sync
  pub run_on : (old new : Environment D) (out : Option SyncOut) (run : HasRun meaning old out) (event : Event) → is_sync event ≡ false →
      HasDone run.most meaning.observable (now (meaning.history (disk_of new))) old new (after_events run.st run.journal) event →
      (meaning.observable ≡ true → IsGuarded run.most run.st run.start (meaning.history (disk_of new)) new (run.journal ++ event ∷ [])) → CanGoOn new → HasRun meaning new out
  run_on old new out run event other done guarded bounds =
      run_then old new out out run event done guarded bounds (stays_out (after_events run.st run.journal) event other ∙ run.sync)

  -- no event: there was no memory
  pub run_still : (old new : Environment D) (out : Option SyncOut) (run : HasRun meaning old out) →
      IsAt run.most meaning.observable (now (meaning.history (disk_of new))) new (after_events run.st run.journal) →
      (meaning.observable ≡ true → IsGuarded run.most run.st run.start (meaning.history (disk_of new)) new run.journal) → CanGoOn new → HasRun meaning new out
  run_still old new out run here guarded bounds = record {
    most = run.most;
    st = run.st;
    start = run.start;
    journal = run.journal;
    here = here;
    limits = run.limits;
    answers = run.answers;
    guarded = guarded;
    bounds = bounds;
    sync = run.sync;
  }

  -- a call was given: an event, or there was no memory and none
  pub stepped : (old new : Environment D) (out : Option SyncOut) (run : HasRun meaning old out) (event : Outcome → Event) → ((o : Outcome) → is_sync (event o) ≡ false) → (result : Result Outcome AllocError) →
      GoesOn run.most meaning.observable (now (meaning.history (disk_of new))) old new (after_events run.st run.journal) event (after_events run.st run.journal) result →
      (meaning.observable ≡ true → GoesOnSafely run.most run.st run.start (meaning.history (disk_of new)) new run.journal event run.journal result) → CanGoOn new → HasRun meaning new out
  stepped old new out run event other (Ok o) done guarded bounds = run_on old new out run (event o) (other o) done guarded bounds
  stepped old new out run event other (Err error) here guarded bounds = run_still old new out run here guarded bounds

  -- a call went on that waited: an event, or there was no memory and its session was ended
  pub resumed : (old new : Environment D) (out : Option SyncOut) (run : HasRun meaning old out) (session : ℕ) (event : Outcome → Event) → ((o : Outcome) → is_sync (event o) ≡ false) →
      (result : Result Outcome AllocError) →
      GoesOn run.most meaning.observable (now (meaning.history (disk_of new))) old new (after_events run.st run.journal) event (after_event (after_events run.st run.journal) (End session)) result →
      (meaning.observable ≡ true → GoesOnSafely run.most run.st run.start (meaning.history (disk_of new)) new run.journal event (run.journal ++ End session ∷ []) result) → CanGoOn new →
      HasRun meaning new out
  resumed old new out run session event other (Ok o) done guarded bounds = run_on old new out run (event o) (other o) done guarded bounds
  resumed old new out run session event other (Err error) here guarded bounds =
      let stands = after_events-append run.st run.journal (End session ∷ []) in
      record {
        most = run.most;
        st = run.st;
        start = run.start;
        journal = run.journal ++ End session ∷ [];
        here = subst (λ (s : Standing). IsAt run.most meaning.observable (now (meaning.history (disk_of new))) new s) (sym stands) here;
        limits = run.limits ++ None ∷ [];
        answers = answers-push run.st run.limits run.journal None (End session) run.answers tt;
        guarded = guarded;
        bounds = bounds;
        sync = ap (λ (s : Standing). s.begun) stands ∙ (stays_out (after_events run.st run.journal) (End session) refl ∙ run.sync);
      }

  -- ---- syncs

  -- an event of a sync
  sync_then : (old new : Environment D) (before out : Option SyncOut) (run : HasRun meaning old before) (event : Event) → IsAnswered None (after_events run.st run.journal) event →
      IsAt run.most meaning.observable (now (meaning.history (disk_of new))) new (after_event (after_events run.st run.journal) event) →
      (meaning.observable ≡ true → IsGuarded run.most run.st run.start (meaning.history (disk_of new)) new (run.journal ++ event ∷ [])) → CanGoOn new →
      (after_event (after_events run.st run.journal) event).begun ≡ option_map (λ (o : SyncOut). o.commits) out → HasRun meaning new out
  sync_then old new before out run event answered here guarded bounds sync =
      let stands = after_events-append run.st run.journal (event ∷ []) in
      record {
        most = run.most;
        st = run.st;
        start = run.start;
        journal = run.journal ++ event ∷ [];
        here = subst (λ (s : Standing). IsAt run.most meaning.observable (now (meaning.history (disk_of new))) new s) (sym stands) here;
        limits = run.limits ++ None ∷ [];
        answers = answers-push run.st run.limits run.journal None event run.answers answered;
        guarded = guarded;
        bounds = bounds;
        sync = ap (λ (s : Standing). s.begun) stands ∙ sync;
      }

  -- the answer of a beginning, where no fault came before
  begin_answered : (fault : Option Fault) → fault ≡ None → (answer : Answer) → IsSyncBegun None answer → IsSyncBegun fault answer
  begin_answered fault valid answer is = subst (λ (f : Option Fault). IsSyncBegun f answer) (sym valid) is

  end_answered : (fault : Option Fault) → fault ≡ None → (begun : Option ℕ) (answer : Answer) → IsSyncEnded None begun answer → IsSyncEnded fault begun answer
  end_answered fault valid begun answer is = subst (λ (f : Option Fault). IsSyncEnded f begun answer) (sym valid) is

  -- one began
  pub begun_sync : (old new : Environment D) (before : Option SyncOut) (run : HasRun meaning old before) (out : SyncOut) → (after_events run.st run.journal).fault ≡ None →
      out.commits ≡ (after_events run.st run.journal).commits →
      BeginsSync run.most meaning.observable (now (meaning.history (disk_of new))) new (after_events run.st run.journal) Done →
      (meaning.observable ≡ true → BeginsSafely run.most run.st run.start (meaning.history (disk_of new)) new run.journal true) → CanGoOn new → HasRun meaning new (Some out)
  begun_sync old new before run out valid commits begins guarded bounds =
      sync_then old new before (Some out) run (SyncBegin Done) (begin_answered (after_events run.st run.journal).fault valid Done begins.0) begins.1 guarded bounds (ap (λ (n : ℕ). Some n) (sym commits))

  -- none did: the disk failed
  pub failed_sync : (old new : Environment D) (out : Option SyncOut) (run : HasRun meaning old out) → (after_events run.st run.journal).fault ≡ None →
      BeginsSync run.most meaning.observable (now (meaning.history (disk_of new))) new (after_events run.st run.journal) DiskFault →
      (meaning.observable ≡ true → BeginsSafely run.most run.st run.start (meaning.history (disk_of new)) new run.journal false) → CanGoOn new → HasRun meaning new out
  failed_sync old new out run valid begins guarded bounds =
      sync_then old new out out run (SyncBegin DiskFault) (begin_answered (after_events run.st run.journal).fault valid DiskFault begins.0) begins.1 guarded bounds run.sync

  -- the end of the one that was out
  pub ended_sync : (old new : Environment D) (out : SyncOut) (run : HasRun meaning old (Some out)) (answer : Answer) → (after_events run.st run.journal).fault ≡ None →
      EndsSync run.most meaning.observable (now (meaning.history (disk_of new))) new (after_events run.st run.journal) answer →
      (meaning.observable ≡ true → IsGuarded run.most run.st run.start (meaning.history (disk_of new)) new (run.journal ++ SyncEnd answer ∷ [])) → CanGoOn new → HasRun meaning new None
  ended_sync old new out run answer valid ends guarded bounds =
      sync_then old new (Some out) None run (SyncEnd answer) (end_answered (after_events run.st run.journal).fault valid (after_events run.st run.journal).begun answer ends.0) ends.1 guarded bounds (none_out answer)
    where
      none_out : (answer : Answer) → (faulted_if answer (record (after_events run.st run.journal) { begun = None })).begun ≡ None
      none_out DiskFault = refl
      none_out answer = refl

-- a fault that is not there
pub is_valid : (told : Option Fault) (some : Bool) → some ≡ is_some told → some ≡ false → {fault : Option Fault} → told ≡ fault → fault ≡ None
is_valid None some is none same = sym same
is_valid (Some f) some is none same = absurd (true≢false (sym is ∙ none))

-- ---- opening

module _ {D : Type 0} (meaning : DiskMeaning D) where
  -- an environment that was opened has had no event
  pub opened_run : (most : ℕ) (files : Files) (environment : Environment D) (opening : Store) → IsOpened most meaning.observable files (now (meaning.history (disk_of environment))) environment opening →
      (meaning.observable ≡ true → IsOpenedSafely most files opening (meaning.history (disk_of environment)) environment) → CanGoOn environment → HasRun meaning environment None
  opened_run most files environment opening opened safely bounds = by meaning.observable refl
    where
      none_begun : (observable : Bool) (st : Standing) (starts : StartsAt observable files opening st) → st.begun ≡ None
      none_begun observable st starts = ap (λ (s : Standing). s.begun) starts.st_is ∙ starts.begun

      by : (b : Bool) → meaning.observable ≡ b → HasRun meaning environment None
      by true is =
          let s = safely is in
          record {
            most = most;
            st = s.st;
            start = meaning.history (disk_of environment);
            journal = [];
            here = subst (λ (b : Bool). IsAt most b (now (meaning.history (disk_of environment))) environment s.st) (sym is) s.here;
            limits = [];
            answers = tt;
            guarded = λ observed. s.guarded;
            bounds = bounds;
            sync = none_begun true s.st s.starts;
          }
      by false is = record {
        most = most;
        st = opened.0;
        start = meaning.history (disk_of environment);
        journal = [];
        here = opened.1.here;
        limits = [];
        answers = tt;
        guarded = λ observed. absurd (true≢false (sym observed ∙ is));
        bounds = bounds;
        sync = none_begun meaning.observable opened.0 opened.1.starts;
      }
