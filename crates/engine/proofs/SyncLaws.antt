-- A guarded run goes on by a sync.
use Rattle.std.proofs.Common.{◌≡◌, ℕ, ◌+◌, ◌<◌, ◌≤◌, ◌⊎◌, inl, inr, true, List, [], ◌∷◌, ◌++◌, Option, Some, None, length, option_to_list, refl, ap, sym, ◌∙◌, subst, arith}
use Rattle.std.proofs.lemmas.Bool.{cases_order}
use Rattle.std.proofs.lemmas.List.{append-nil, length-append}
use Rattle.je_disk.specs.States.{State}
use Rattle.je_disk.specs.Moments.{History, Passes, now}
use Rattle.store_model.specs.declared.answer.Answer.TheVariants.{Done, Durable, DiskFault}
use Rattle.store_model.specs.declared.change.Change.{Change}
use Rattle.store_model.specs.declared.event.Event.{Event}
use Rattle.store_model.specs.declared.event.Event.TheVariants.{SyncBegin, SyncEnd}
use Rattle.je_answers.specs.Standing.{Standing}
use Rattle.je_answers.specs.After.{after_events}
use Rattle.je_answers.specs.Journal.{attempts_of, commits_of}
use Rattle.je_answers.proofs.Commits.{commits-make_the_store, attempts-go_on}
use Rattle.log_file.specs.Log.{Log, entries_of}
use Rattle.log_buffer.specs.declared.buffer.LogBuffer.{LogBuffer}
use Rattle.log_buffer.specs.Buffer.{file_max_of, has_failed}
use Rattle.log_buffer.specs.Crash.{KeepsRead, KeptThrough}
use Rattle.log_buffer.proofs.Staying.{read_through}
use Rattle.crash_recovery.proofs.Commits.{all_are_committed}
use Rattle.engine.specs.Guarded.{CoversSync, IsKeeping, IsGuardedLog}
use Rattle.engine.proofs.GuardLaws.{goes_freely, guarded_same, keeping_read}
use Rattle.engine.proofs.LengthLaws.{sizes_other}

-- the last moment, where time may have stood still
pub passes_now : (old new : History) (P : State → Type 0) → Passes old new P → P (now old) → P (now new)
passes_now old new P passes here = by_order (cases_order old.moment new.moment)
  where
    by_order : (old.moment ≡ new.moment) ⊎ ((old.moment < new.moment) ⊎ (new.moment < old.moment)) → P (now new)
    by_order (inl same) = subst (λ (k : ℕ). P (new.state_at k)) same (subst P (sym (passes.keeps old.moment (omega arith))) here)
    by_order (inr (inl later)) = passes.each new.moment later (omega arith)
    by_order (inr (inr earlier)) = let on : old.moment ≤ new.moment = passes.later in absurd (omega arith)

-- a run has committed no more transactions than it attempted
pub commits_attempted : (st : Standing) (journal : List Event) → st.commits ≡ 0 → (after_events st journal).commits ≤ length (attempts_of st journal)
commits_attempted st journal none =
    let count = (commits-make_the_store st journal).count in
    let goes = attempts-go_on st journal in
    let all : length (attempts_of st journal) ≡ length (commits_of st journal) + length (option_to_list goes.0) =
    ap (λ (l : List (List Change)). length l) goes.1 ∙ length-append (commits_of st journal) (option_to_list goes.0) in
    omega (arith, count, all, none)

-- a sync that is out, by its entries
pub out_is : (now_begun : Option ℕ) (base : ℕ) (log : Log) (begun : Option ℕ) (commits : ℕ) → now_begun ≡ Some commits → CoversSync now_begun base log begun → (entries : ℕ) × (begun ≡ Some entries)
out_is now_begun base log begun commits out covers = by_begun begun (subst (λ (n : Option ℕ). CoversSync n base log begun) out covers)
  where
    by_begun : (b : Option ℕ) → CoversSync (Some commits) base log b → (entries : ℕ) × (b ≡ Some entries)
    by_begun None none = absurd none
    by_begun (Some entries) some = (entries, refl)

module _ {D : Type 0} where
  -- before a fault all attempts are logged
  pub all_logged : (st : Standing) (log : Log) (start : History) (history : History) (buffer : LogBuffer D) (journal : List Event) → (g : IsGuardedLog st log start history buffer journal) →
      (after_events st journal).fault ≡ None → attempts_of st journal ≡ g.kept.logged
  all_logged st log start history buffer journal g none = g.kept.attempts ∙ ap (λ (l : List (List Change)). g.kept.logged ++ l) (g.all none) ∙ append-nil g.kept.logged

  -- a sync began, of all that was committed so far
  pub begun_safely : (st : Standing) (log : Log) (start : History) (old new : History) (buffer longer : LogBuffer D) (journal : List Event) → (after_events st journal).fault ≡ None →
      (g : IsGuardedLog st log start old buffer journal) → KeptThrough old new log [] g.least → file_max_of longer ≡ file_max_of buffer →
      IsKeeping (now new) longer log g.least (Some (length (entries_of log))) →
      IsGuardedLog st log start new longer (journal ++ SyncBegin Done ∷ [])
  begun_safely st log start old new buffer longer journal none g through max keeping =
      let few = commits_attempted st journal g.none_before in
      let all = ap (λ (l : List (List Change)). length l) (all_logged st log start old buffer journal g none) in
      let committed = (all_are_committed g.kept.first st.store g.base g.kept.logged log g.kept.recovers).1 in
      guarded_same st log start old new buffer longer journal (SyncBegin Done) (Some (length (entries_of log))) g.least g refl through (omega arith)
      (keeping_read (now new) longer log g.least (Some (length (entries_of log))) keeping) (omega arith)
      (λ fault. keeping) (λ fault. (omega arith, omega (arith, few, all, committed))) (λ ok. none) (λ fault. (none, refl)) (goes_freely st log start old new buffer journal g none)
      (λ fault. sizes_other g.most (now start).reads buffer longer log max (g.sizes none))

  -- a sync could not begin
  pub not_begun_safely : (st : Standing) (log : Log) (start : History) (old new : History) (buffer longer : LogBuffer D) (journal : List Event) → (after_events st journal).fault ≡ None →
      (g : IsGuardedLog st log start old buffer journal) → KeptThrough old new log [] g.least → has_failed longer ≡ true →
      IsGuardedLog st log start new longer (journal ++ SyncBegin DiskFault ∷ [])
  not_begun_safely st log start old new buffer longer journal none g through failed =
      guarded_same st log start old new buffer longer journal (SyncBegin DiskFault) None g.least g refl through (omega arith)
      (passes_now old new (KeepsRead log [] g.least) (read_through log [] g.least old new through) g.kept.keeps) (omega arith)
      (λ fault. absurd cc) (λ fault. absurd cc) (λ ok. absurd cc) (λ fault. absurd cc) (goes_freely st log start old new buffer journal g none) (λ fault. absurd cc)

  -- a sync ended, and made durable what was committed as it began, whatever was logged since
  pub ended_safely : (st : Standing) (log : Log) (start : History) (commits entries : ℕ) (old new : History) (buffer longer : LogBuffer D) (journal : List Event) → (after_events st journal).fault ≡ None →
      (after_events st journal).begun ≡ Some commits →
      (g : IsGuardedLog st log start old buffer journal) → g.begun ≡ Some entries → KeptThrough old new log [] g.least → g.least ≤ entries → file_max_of longer ≡ file_max_of buffer →
      IsKeeping (now new) longer log entries None →
      IsGuardedLog st log start new longer (journal ++ SyncEnd (Durable commits) ∷ [])
  ended_safely st log start commits entries old new buffer longer journal none began g is through rises max keeping =
      let covered : CoversSync (Some commits) g.base log (Some entries) =
      subst (λ (n : Option ℕ). CoversSync n g.base log (Some entries)) began (subst (λ (b : Option ℕ). CoversSync (after_events st journal).begun g.base log b) is (g.covers none)) in
      let few = covered.1 in
      guarded_same st log start old new buffer longer journal (SyncEnd (Durable commits)) None entries g refl through
      rises (keeping_read (now new) longer log entries None keeping) (omega (arith, few))
      (λ fault. keeping) (λ fault. tt) (λ ok. none) (λ fault. (none, refl)) (goes_freely st log start old new buffer journal g none)
      (λ fault. sizes_other g.most (now start).reads buffer longer log max (g.sizes none))

  -- the disk failed as it ended
  pub not_ended_safely : (st : Standing) (log : Log) (start : History) (old new : History) (buffer longer : LogBuffer D) (journal : List Event) → (after_events st journal).fault ≡ None →
      (g : IsGuardedLog st log start old buffer journal) → KeptThrough old new log [] g.least → has_failed longer ≡ true →
      IsGuardedLog st log start new longer (journal ++ SyncEnd DiskFault ∷ [])
  not_ended_safely st log start old new buffer longer journal none g through failed =
      guarded_same st log start old new buffer longer journal (SyncEnd DiskFault) None g.least g refl through (omega arith)
      (passes_now old new (KeepsRead log [] g.least) (read_through log [] g.least old new through) g.kept.keeps) (omega arith)
      (λ fault. absurd cc) (λ fault. absurd cc) (λ ok. absurd cc) (λ fault. absurd cc) (goes_freely st log start old new buffer journal g none) (λ fault. absurd cc)
