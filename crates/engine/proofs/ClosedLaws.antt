-- A guarded run that was closed, and one that begins.
use Rattle.std.proofs.Common.{◌≡◌, ℕ, ◌≤◌, Bool, true, false, true≢false, List, [], Option, None, length, refl, ap, sym, ◌∙◌, subst, arith, inl}
use Rattle.std.proofs.lemmas.List.{append-nil, take_all}
use Rattle.je_disk.specs.States.{Files, State, synced_crash_states}
use Rattle.je_disk.specs.Moments.{History, now}
use Rattle.je_disk.proofs.MomentLaws.{passes_none}
use Rattle.store_model.specs.declared.change.Change.{Change}
use Rattle.store_model.specs.declared.event.Event.{Event}
use Rattle.store_model.specs.declared.store.Store.{Store}
use Rattle.store_model.specs.Store.{store_after}
use Rattle.je_answers.specs.Standing.{Standing}
use Rattle.je_answers.specs.Alone.{Alone, alone}
use Rattle.je_answers.specs.After.{after_events}
use Rattle.je_answers.specs.Journal.{has_answer, is_disk_fault}
use Rattle.log_file.specs.Log.{Log, entries_of}
use Rattle.log_buffer.specs.declared.buffer.LogBuffer.{LogBuffer}
use Rattle.log_buffer.specs.Buffer.{first_of, has_failed, file_max_of}
use Rattle.log_buffer.specs.Crash.{HoldPrefixes, Holds, IsKeptSince, KeepsRead, KeptThrough}
use Rattle.log_buffer.specs.Log.{HasLog}
use Rattle.log_buffer.proofs.ChanceMatches.{past_is_held}
use Rattle.log_buffer.proofs.Staying.{stay_same}
use Rattle.log_trees.specs.Placed.{placed}
use Rattle.crash_recovery.specs.Recovery.{RecoversLog, IsImageRecovered, IsStateRecovered}
use Rattle.crash_recovery.proofs.Commits.{all_are_committed}
use Rattle.crash_recovery.proofs.ImageStores.{states_recover}
use Rattle.engine.specs.Crash.{IsSafeRun, ImagesMean}
use Rattle.engine.specs.Environment.{RecoversStore}
use Rattle.engine.specs.Files.{MeanStore}
use Rattle.engine.specs.Guarded.{CoversSync, IsGuardedLog, IsKeeping, IsRead}
use Rattle.engine.proofs.GuardLaws.{keeping_read, one_log}
use Rattle.engine.proofs.SafeLaws.{as_many, files_on, goes_on, grown_same, none_more, past_on, read_on, safe}
use Rattle.engine.proofs.LengthLaws.{sizes_found}

module _ {D : Type 0} where
  -- a run that was closed; one whose buffer has failed was let go
  pub closed_safely : (st : Standing) (log : Log) (start : History) (old new : History) (buffer : LogBuffer D) (journal : List Event) → (g : IsGuardedLog st log start old buffer journal) →
      KeptThrough old new log [] g.least → (has_failed buffer ≡ true → new ≡ old) → IsSafeRun st start new journal
  closed_safely st log start old new buffer journal g through same = record {
    since = goes_on start old new (IsKeptSince log [] g.least (now old).reads) g.since through;
    begins = g.begins;
    events = none_more st start.moment old new (IsKeptSince log [] g.least (now old).reads) start.moment [] journal through g.events
        (λ k lo hi. safe st g.kept.first g.base log g.least g.kept.logged g.kept.cut journal [] journal start.moment new k (sym (append-nil journal)) g.kept.from g.kept.recovers g.kept.attempts g.kept.synced (through.each k lo hi).kept
        (read_on g.base log log g.least (now old) (new.state_at k) journal (grown_same g.base log) (through.each k lo hi).stay g.kept.read)
        (λ j from upto. past_on log log g.least start old new (λ reads h. h) g.past through j from (omega (arith, upto, hi))))
        (by_failed (has_failed buffer) refl);
    files = files_on log g.least start old new g.since.later g.files through;
  } where
    by_failed : (b : Bool) → has_failed buffer ≡ b → has_answer is_disk_fault journal ≡ true → new.moment ≤ old.moment
    by_failed true failed fault = let at : new.moment ≡ old.moment = ap (λ (h : History). h.moment) (same failed) in omega (arith, at)
    by_failed false works fault = absurd (true≢false (sym fault ∙ g.faultless (g.stops works)))

-- ---- all of the log

-- files that mean all of the transactions mean the store that these make
pub all_recovered : (opening store : Store) (least : ℕ) (image : Files) (transactions : List (List Change)) → length transactions ≤ least → store_after opening transactions ≡ store → IsImageRecovered opening least transactions image → MeanStore image store
all_recovered opening store least image transactions all made is =
    let r = is.recovered in
    let enough : least ≤ r.count = r.at_least in
    (r.meaning, record { held = is.held; are = is.are; reads = r.reads }, r.store ∙ ap (store_after opening) (take_all r.count transactions (omega (arith, all, enough))) ∙ made)

-- a disk of which a crash keeps all of a log is recovered with all of its transactions
all_kept : (log : Log) (state : State) (store : Store) → (r : RecoversStore log store) → KeepsRead log [] (length (entries_of log)) state →
    IsStateRecovered log r.opening (length r.transactions) r.transactions state
all_kept log state store r keeps =
    let all = all_are_committed r.first r.opening r.base r.transactions log r.recovers in
    subst (λ (n : ℕ). IsStateRecovered log r.opening n r.transactions state) all.1
    (states_recover r.first r.opening r.base (length (entries_of log)) r.transactions log state r.recovers all.0 keeps)

-- each image of it means the store of the log, prefixes of which it read so far
closed_images : (log : Log) (since : ℕ) (history : History) (store : Store) → RecoversStore log store → KeepsRead log [] (length (entries_of log)) (now history) →
    ((k : ℕ) → since ≤ k → k ≤ history.moment → HoldPrefixes log (history.state_at k).reads) → ImagesMean since history history.moment store
closed_images log since history store r keeps past = λ image left.
    all_recovered r.opening store (length r.transactions) image r.transactions (omega arith) r.made
    ((all_kept log (now history) store r keeps).images image left.is.files (past_is_held log since history history.moment image past left))

module _ {D : Type 0} where
  -- so do the images of a run that was closed
  pub run_images : (st : Standing) (log held : Log) (start : History) (old new : History) (buffer : LogBuffer D) (journal : List Event) (store : Store) → (g : IsGuardedLog st log start old buffer journal) →
      (after_events st journal).fault ≡ None → HasLog true (now old) buffer held → RecoversStore held store → KeptThrough old new log [] g.least → KeepsRead held [] (length (entries_of held)) (now new) →
      ImagesMean start.moment new new.moment store
  run_images st log held start old new buffer journal store g none has r through keeps =
      closed_images held start.moment new store r keeps
      (subst (λ (l : Log). (k : ℕ) → start.moment ≤ k → k ≤ new.moment → HoldPrefixes l (new.state_at k).reads) (one_log (now old) buffer log held (g.works none).has has)
      (past_on log log g.least start old new (λ reads h. h) g.past through))

-- and so does what it reads
pub files_mean : (log : Log) (state : State) (store : Store) → RecoversStore log store → KeepsRead log [] (length (entries_of log)) state → MeanStore state.reads store
files_mean log state store r keeps = all_recovered r.opening store (length r.transactions) state.reads r.transactions (omega arith) r.made (all_kept log state store r keeps).read

-- ---- a run that begins

module _ {D : Type 0} where
  -- where the model stands at a log's store, of which a crash keeps all
  pub guarded_none : (first : ℕ) (p : Alone) (log : Log) (history : History) (buffer : LogBuffer D) → p.fault ≡ None → p.commits ≡ 0 → p.begun ≡ None →
      HasLog true (now history) buffer log → Holds log [] (length (entries_of log)) None (first_of buffer) (now history) → RecoversLog first p.store (length (placed log)) [] log →
      (now history).crash_states ≡ synced_crash_states (now history).reads →
      IsGuardedLog (alone p) log history history buffer []
  guarded_none first p log history buffer none commits out has holds recovers stable =
      let count : ℕ = length (entries_of log) in
      let keeping : IsKeeping (now history) buffer log count None = record { has = has; holds = holds } in
      let keeps : KeepsRead log [] count (now history) = keeping_read (now history) buffer log count None keeping in
      let from : length (placed log) ≤ count = omega (arith, as_many log) in
      let past : (k : ℕ) → history.moment ≤ k → k ≤ history.moment → HoldPrefixes log (history.state_at k).reads =
      λ k lo hi. let at : history.moment ≡ k = omega (arith, lo, hi) in subst (λ n. HoldPrefixes log (history.state_at n).reads) at keeps.prefixes in
      let read : IsRead (length (placed log)) log count (now history) [] = record { written = count; from = from; within = omega arith; count = omega arith; holds = inl (omega arith) } in
      record {
        since = passes_none history (λ (s : State). Unit {0});
        begins = safe (alone p) first (length (placed log)) log count [] [] [] [] [] history.moment history history.moment refl from recovers refl (omega arith) keeps read past;
        events = refl;
        none_before = commits;
        base = length (placed log);
        least = count;
        kept = record { from = from; first = first; logged = []; cut = []; attempts = refl; recovers = recovers; synced = omega arith; keeps = keeps; read = read };
        begun = None;
        works = λ valid. keeping;
        covers = λ valid. subst (λ (n : Option ℕ). CoversSync n (length (placed log)) log None) (sym out) tt;
        all = λ valid. refl;
        stops = λ ok. none;
        faultless = λ valid. refl;
        files = λ k lo hi. let at : k ≡ history.moment = omega (arith, lo, hi) in stay_same (now history).reads (history.state_at k).reads (ap (λ n. (history.state_at n).reads) at);
        past = past;
        most = file_max_of buffer;
        sizes = λ valid. record { max = refl; sizes = sizes_found (file_max_of buffer) log (now history).reads (now history).crash_states has.is_log holds.kept.keeps stable };
      }
