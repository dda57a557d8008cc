-- A run whose disk was safe so far, one event later.
use Rattle.std.proofs.Common.{◌≡◌, ℕ, ◌<◌, ◌≤◌, ◌||◌, Bool, max, true, false, List, [], ◌∷◌, ◌++◌, None, Option, length, refl, ap, sym, ◌∙◌, subst, arith, append_assoc, ◌⊎◌, inl, inr}
use Rattle.std.proofs.lemmas.Bool.{cases_lt}
use Rattle.std.proofs.lemmas.List.{append-nil, length-append, length-map}
use Rattle.je_disk.specs.States.{Files, State}
use Rattle.je_disk.specs.Moments.{History, Passes, now}
use Rattle.je_disk.proofs.MomentLaws.{passes_then, passes_weaken}
use Rattle.store_model.specs.declared.change.Change.{Change}
use Rattle.store_model.specs.declared.answer.Answer.{Answer}
use Rattle.store_model.specs.declared.event.Event.{Event}
use Rattle.store_model.specs.declared.event.Event.TheVariants.{SyncEnd}
use Rattle.store_model.specs.declared.answer.Answer.TheVariants.{Durable}
use Rattle.je_answers.specs.After.{after_event, after_events}
use Rattle.je_answers.specs.Standing.{Standing}
use Rattle.je_answers.specs.Journal.{answers_some, attempt_of, attempts_of, durable_by, has_answer, is_disk_fault, synced_of}
use Rattle.log_entry.specs.declared.entry.Entry.{Entry}
use Rattle.je_answers.specs.Written.{written_by, written_of}
use Rattle.log_file.specs.Log.{Log, IsLog, entries_of}
use Rattle.log_file.proofs.PlacedLaws.{placed_are_entries}
use Rattle.log_buffer.specs.declared.buffer.LogBuffer.{LogBuffer}
use Rattle.log_buffer.specs.Buffer.{has_failed}
use Rattle.log_buffer.specs.Crash.{FilesStay, HoldPrefixes, IsKeptSince, KeepsRead, KeptThrough}
use Rattle.log_buffer.specs.declared.log_pos.LogPos.{LogPos}
use Rattle.log_buffer.specs.Growth.{log_with_all}
use Rattle.log_buffer.specs.Laws.{placed_by}
use Rattle.log_buffer.specs.Log.{EndsAt}
use Rattle.log_buffer.specs.Written.{HoldsWritten}
use Rattle.log_buffer.proofs.ChanceMatches.{left_before, past_is_held}
use Rattle.log_buffer.proofs.GrowthLaws.{appended_are_placed, prefixes_with_all}
use Rattle.log_buffer.proofs.Staying.{stay_now, stay_then}
use Rattle.log_buffer.proofs.WrittenLaws.{written_grow, written_stay}
use Rattle.log_trees.specs.Placed.{Placed, placed}
use Rattle.log_meaning.specs.Recovery.{commits_in}
use Rattle.log_meaning.proofs.Leaving.{commits_rise}
use Rattle.crash_recovery.specs.Recovery.{IsImageRecovered, RecoversLog, IsStateRecovered}
use Rattle.crash_recovery.proofs.Commits.{commits_stay, kept_are_within}
use Rattle.crash_recovery.proofs.ImageStores.{states_recover, wider_image, wider_is_recovered, written_recover}
use Rattle.engine.specs.Crash.{Follows, IsSafe, IsSafeEvent, AreSafeEvents, IsSafeBehind}
use Rattle.engine.specs.Lengths.{KeepsSizes}
use Rattle.engine.specs.Guarded.{CoversSync, IsKeeping, IsGuardedLog, IsRead}

-- ---- entries

-- a log has as many entries, whether one looks at their places or not
pub as_many : (log : Log) → length (entries_of log) ≡ length (placed log)
as_many log = ap (λ (l : List Entry). length l) (sym (placed_are_entries log)) ∙ length-map (placed log) (λ (p : Placed). p.1)

-- a crash keeps no more entries than a log has
pub kept_within : (log : Log) (least : ℕ) (state : State) → KeepsRead log [] least state → least ≤ length (placed log)
kept_within log least state keeps = let low = kept_are_within log [] least state.crash_states keeps.keeps in omega (arith, low, as_many log)

-- ---- images

-- what it reads means at least the transactions that were written
read_safe : (st : Standing) (first base : ℕ) (log : Log) (least : ℕ) (logged cut : List (List Change)) (over : List Event) (state : State) → RecoversLog first st.store base logged log →
    IsStateRecovered log st.store (commits_in base least (placed log)) logged state → least ≤ length (placed log) → KeepsRead log [] least state → IsRead base log least state over →
    IsImageRecovered st.store (written_of over) (logged ++ cut) state.reads
read_safe st first base log least logged cut over state recovers there within keeps read = by_holds read.holds
  where
    count : written_of over ≤ commits_in base read.written (placed log)
    count = read.count

    by_holds : (read.written ≤ least) ⊎ HoldsWritten log read.written state.reads → IsImageRecovered st.store (written_of over) (logged ++ cut) state.reads
    by_holds (inl low) =
        let more = commits_rise base read.written least (placed log) read.from low within in
        wider_image st.store (commits_in base least (placed log)) (written_of over) logged cut state.reads there.read (omega (arith, count, more))
    by_holds (inr holds) =
        wider_image st.store (commits_in base read.written (placed log)) (written_of over) logged cut state.reads
        (written_recover first st.store base least read.written logged log state recovers read.from keeps holds) count

-- a disk that keeps the log of these events, prefixes of which it read so far, is safe; one that was cut short may not be in the log
pub safe : (st : Standing) (first base : ℕ) (log : Log) (least : ℕ) (logged cut : List (List Change)) (over under_way all : List Event) (since : ℕ) (history : History) (k : ℕ) → all ≡ over ++ under_way → base ≤ least →
    RecoversLog first st.store base logged log → attempts_of st all ≡ logged ++ cut →
    synced_of over ≤ commits_in base least (placed log) → KeepsRead log [] least (history.state_at k) → IsRead base log least (history.state_at k) over →
    ((j : ℕ) → since ≤ j → j ≤ k → HoldPrefixes log (history.state_at j).reads) → IsSafe st since history k over under_way
safe st first base log least logged cut over under_way all since history k parts from recovers attempts synced keeps read past =
    let state : State = history.state_at k in
    let exact : IsStateRecovered log st.store (commits_in base least (placed log)) logged state = states_recover first st.store base least logged log state recovers from keeps in
    let wide : IsStateRecovered log st.store (synced_of over) (logged ++ cut) state =
    wider_is_recovered log st.store (commits_in base least (placed log)) (synced_of over) logged cut state exact synced in
    let same : logged ++ cut ≡ attempts_of st (over ++ under_way) = sym attempts ∙ ap (attempts_of st) parts in
    let there : IsStateRecovered log st.store (synced_of over) (attempts_of st (over ++ under_way)) state =
    subst (λ (t : List (List Change)). IsStateRecovered log st.store (synced_of over) t state) same wide in
    record {
      read = subst (λ (t : List (List Change)). IsImageRecovered st.store (written_of over) t state.reads) same
          (read_safe st first base log least logged cut over state recovers exact (kept_within log least state keeps) keeps read);
      images = λ image left. there.images image left.is.files (past_is_held log since history k image past left);
    }

-- ---- time goes on

-- and further
pub goes_on : (start old new : History) (P : State → Type 0) → Follows start old → Passes old new P → Follows start new
goes_on start old new P since passes = passes_then start old new (λ (s : State). Unit {0}) since (passes_weaken old new P (λ (s : State). Unit {0}) (λ s p. tt) passes)

-- what was safe at a moment is safe there later on
safe_later : (st : Standing) (since k : ℕ) (old new : History) (P : State → Type 0) (over under_way : List Event) → Passes old new P → k ≤ old.moment → IsSafe st since old k over under_way → IsSafe st since new k over under_way
safe_later st since k old new P over under_way passes here is = record {
  read = subst (λ (s : State). IsImageRecovered st.store (written_of over) (attempts_of st (over ++ under_way)) s.reads) (sym (passes.keeps k here)) is.read;
  images = λ image left. is.images image (left_before since k old new P image passes here left);
}

event_later : (st : Standing) (since : ℕ) (old new : History) (P : State → Type 0) (from to : ℕ) (over : List Event) (event : Event) → Passes old new P → IsSafeEvent st since old from to over event →
    IsSafeEvent st since new from to over event
event_later st since old new P from to over event passes is = record {
  later = is.later;
  within = let here : to ≤ old.moment = is.within in let on : old.moment ≤ new.moment = passes.later in omega arith;
  during = λ k lo hi. let here : to ≤ old.moment = is.within in safe_later st since k old new P over (event ∷ []) passes (omega arith) (is.during k lo hi);
  behind = safe_later st since to old new P (over ++ event ∷ []) [] passes is.within is.behind;
  still = λ fault k lo hi. let here : to ≤ old.moment = is.within in let on : from ≤ to = is.later in
      passes.keeps k (omega arith) ∙ is.still fault k lo hi ∙ sym (passes.keeps from (omega arith));
}

-- one event more, in no time where a disk fault came before
pub one_more : (st : Standing) (since : ℕ) (old new : History) (P : State → Type 0) (from : ℕ) (over events : List Event) (event : Event) → Passes old new P →
    AreSafeEvents st since old (λ at all. at ≡ old.moment) from over events →
    ((k : ℕ) → old.moment < k → k ≤ new.moment → IsSafe st since new k (over ++ events) (event ∷ [])) →
    IsSafe st since new new.moment ((over ++ events) ++ event ∷ []) [] →
    (has_answer is_disk_fault (over ++ events) ≡ true → new.moment ≤ old.moment) →
    AreSafeEvents st since new (λ at all. at ≡ new.moment) from over (events ++ event ∷ [])
one_more st since old new P from over [] event passes at during behind still = (
  new.moment,
  record {
    later = let on : old.moment ≤ new.moment = passes.later in omega (arith, at);
    within = omega arith;
    during = λ k lo hi. subst (λ (l : List Event). IsSafe st since new k l (event ∷ [])) (append-nil over) (during k (omega (arith, at, lo)) hi);
    behind = subst (λ (l : List Event). IsSafe st since new new.moment (l ++ event ∷ []) []) (append-nil over) behind;
    still = λ fault k lo hi. let stands : new.moment ≤ old.moment = still (subst (λ (l : List Event). has_answer is_disk_fault l ≡ true) (sym (append-nil over)) fault) in absurd (omega (arith, at, lo, hi));
  },
  refl,
)
one_more st since old new P from over (first ∷ events) event passes safe_so_far during behind still = (
  safe_so_far.0,
  event_later st since old new P from safe_so_far.0 over first passes safe_so_far.1,
  one_more st since old new P safe_so_far.0 (over ++ first ∷ []) events event passes safe_so_far.2
      (λ k lo hi. subst (λ (l : List Event). IsSafe st since new k l (event ∷ [])) (sym (append_assoc over (first ∷ []) events)) (during k lo hi))
      (subst (λ (l : List Event). IsSafe st since new new.moment (l ++ event ∷ []) []) (sym (append_assoc over (first ∷ []) events)) behind)
      (λ fault. still (subst (λ (l : List Event). has_answer is_disk_fault l ≡ true) (append_assoc over (first ∷ []) events) fault)),
)

-- no event more: all are over
pub none_more : (st : Standing) (since : ℕ) (old new : History) (P : State → Type 0) (from : ℕ) (over events : List Event) → Passes old new P →
    AreSafeEvents st since old (λ at all. at ≡ old.moment) from over events →
    ((k : ℕ) → old.moment < k → k ≤ new.moment → IsSafe st since new k (over ++ events) []) →
    (has_answer is_disk_fault (over ++ events) ≡ true → new.moment ≤ old.moment) →
    AreSafeEvents st since new (IsSafeBehind st since new) from over events
none_more st since old new P from over [] passes at behind still = record {
  safe = λ k lo hi. subst (λ (l : List Event). IsSafe st since new k l []) (append-nil over) (behind k (omega (arith, at, lo)) hi);
  still = λ fault k lo hi. let stands : new.moment ≤ old.moment = still (subst (λ (l : List Event). has_answer is_disk_fault l ≡ true) (sym (append-nil over)) fault) in absurd (omega (arith, at, lo, hi));
}
none_more st since old new P from over (first ∷ events) passes safe_so_far behind still = (
  safe_so_far.0,
  event_later st since old new P from safe_so_far.0 over first passes safe_so_far.1,
  none_more st since old new P safe_so_far.0 (over ++ first ∷ []) events passes safe_so_far.2
      (λ k lo hi. subst (λ (l : List Event). IsSafe st since new k l []) (sym (append_assoc over (first ∷ []) events)) (behind k lo hi))
      (λ fault. still (subst (λ (l : List Event). has_answer is_disk_fault l ≡ true) (append_assoc over (first ∷ []) events) fault)),
)

-- ---- a longer journal

pub attempts-append : (st : Standing) (before after : List Event) → attempts_of st (before ++ after) ≡ attempts_of st before ++ attempts_of (after_events st before) after
attempts-append st [] after = refl
attempts-append st (event ∷ before) after =
    let first = attempt_of st event in
    let then_st = after_event st event in
    ap (λ (l : List (List Change)). first ++ l) (attempts-append then_st before after)
    ∙ sym (append_assoc first (attempts_of then_st before) (attempts_of (after_events then_st before) after))

pub attempts-push : (st : Standing) (journal : List Event) (event : Event) → attempts_of st (journal ++ event ∷ []) ≡ attempts_of st journal ++ attempt_of (after_events st journal) event
attempts-push st journal event =
    attempts-append st journal (event ∷ []) ∙ ap (λ (l : List (List Change)). attempts_of st journal ++ l) (append-nil (attempt_of (after_events st journal) event))

pub synced-push : (journal : List Event) (event : Event) → synced_of (journal ++ event ∷ []) ≡ max (synced_of journal) (durable_by event)
synced-push [] event = omega arith
synced-push (first ∷ journal) event = omega (arith, synced-push journal event)

pub written-push : (journal : List Event) (event : Event) → written_of (journal ++ event ∷ []) ≡ max (written_of journal) (written_by event)
written-push [] event = omega arith
written-push (first ∷ journal) event = omega (arith, written-push journal event)

-- what is durable is written
pub durable-written : (event : Event) → durable_by event ≤ written_by event
durable-written (SyncEnd (Durable commit)) = omega arith
durable-written event = omega arith

-- ---- files

-- the files that were there as a run began are there further on
pub files_on : (log : Log) (least : ℕ) (start old new : History) → start.moment ≤ old.moment → ((k : ℕ) → start.moment ≤ k → k ≤ old.moment → FilesStay (now start).reads (old.state_at k).reads) → KeptThrough old new log [] least →
    (k : ℕ) → start.moment ≤ k → k ≤ new.moment → FilesStay (now start).reads (new.state_at k).reads
files_on log least start old new later files through k lo hi = by_order (cases_lt old.moment k) where
  by_order : (old.moment < k) ⊎ (k ≤ old.moment) → FilesStay (now start).reads (new.state_at k).reads
  by_order (inl behind) = stay_then (now start).reads (now old).reads (new.state_at k).reads (files old.moment later (omega arith)) (through.each k behind hi).stay
  by_order (inr within) = subst (λ (s : State). FilesStay (now start).reads s.reads) (sym (through.keeps k within)) (files k lo within)

-- what the disk read is a prefix of a log that has grown
pub past_on : (log grown : Log) (least : ℕ) (start old new : History) → ((reads : Files) → HoldPrefixes log reads → HoldPrefixes grown reads) →
    ((k : ℕ) → start.moment ≤ k → k ≤ old.moment → HoldPrefixes log (old.state_at k).reads) → KeptThrough old new grown [] least → (k : ℕ) → start.moment ≤ k → k ≤ new.moment → HoldPrefixes grown (new.state_at k).reads
past_on log grown least start old new grows past through k lo hi = by_order (cases_lt old.moment k) where
  by_order : (old.moment < k) ⊎ (k ≤ old.moment) → HoldPrefixes grown (new.state_at k).reads
  by_order (inl behind) = (through.each k behind hi).kept.prefixes
  by_order (inr within) = subst (λ (s : State). HoldPrefixes grown s.reads) (sym (through.keeps k within)) (grows (old.state_at k).reads (past k lo within))

-- ---- a disk fault

-- no answer of a longer journal is a disk fault
pub none-push : (test : Answer → Bool) (journal : List Event) (event : Event) → has_answer test journal ≡ false → answers_some test event ≡ false → has_answer test (journal ++ event ∷ []) ≡ false
none-push test [] event none one = ap (λ (b : Bool). b || false) one
none-push test (first ∷ journal) event none one = by_first (answers_some test first) none (λ h. none-push test journal event h one) where
  by_first : (b : Bool) → (b || has_answer test journal) ≡ false → (has_answer test journal ≡ false → has_answer test (journal ++ event ∷ []) ≡ false) → (b || has_answer test (journal ++ event ∷ [])) ≡ false
  by_first true h rest = absurd cc
  by_first false h rest = rest h

-- ---- what is read

-- A log that a longer one goes on from: what its first entries commit is the same, and so is what was written of them, and prefixes of it.
pub record IsGrownFrom (base : ℕ) (log grown : Log) : Type 0 where
  pub commits : (n : ℕ) → n ≤ length (entries_of log) → commits_in base n (placed grown) ≡ commits_in base n (placed log)
  pub holds : (n : ℕ) (reads : Files) → HoldsWritten log n reads → HoldsWritten grown n reads
  pub prefixes : (reads : Files) → HoldPrefixes log reads → HoldPrefixes grown reads
  pub longer : length (entries_of log) ≤ length (entries_of grown)

pub grown_same : (base : ℕ) (log : Log) → IsGrownFrom base log log
grown_same base log = record { commits = λ n within. refl; holds = λ n reads h. h; prefixes = λ reads h. h; longer = omega arith }

pub grown_by : (base : ℕ) (log : Log) (end : LogPos) (last most : ℕ) (entries : List Entry) → IsLog log → EndsAt log end.file end.offset last → IsGrownFrom base log (log_with_all most end entries log)
grown_by base log end last most entries is ends =
    let count = ap (λ (l : List Placed). length l) (appended_are_placed log end last most entries is ends) in
    let parts = length-append (placed log) (placed_by most end entries) in
    let before = as_many log in
    let behind = as_many (log_with_all most end entries log) in
    record {
      commits = λ n within. commits_stay log end last most entries base n is ends within;
      holds = λ n reads h. written_grow log most end entries n reads h;
      prefixes = λ reads h. prefixes_with_all log end most entries reads h;
      longer = omega (arith, count, parts, before, behind);
    }

-- what is read of a log is read of a longer one while files stay
pub read_on : (base : ℕ) (log grown : Log) (least : ℕ) (before after : State) (journal : List Event) → IsGrownFrom base log grown → FilesStay before.reads after.reads → IsRead base log least before journal →
    IsRead base grown least after journal
read_on base log grown least before after journal grows stay read = record {
  written = read.written;
  from = read.from;
  within = let low : read.written ≤ length (entries_of log) = read.within in let longer = grows.longer in omega (arith, low, longer);
  count = subst (λ (n : ℕ). written_of journal ≤ n) (sym (grows.commits read.written read.within)) read.count;
  holds = by_holds read.holds;
} where
  by_holds : (read.written ≤ least) ⊎ HoldsWritten log read.written before.reads → (read.written ≤ least) ⊎ HoldsWritten grown read.written after.reads
  by_holds (inl low) = inl low
  by_holds (inr h) = inr (written_stay grown read.written before.reads after.reads (grows.holds read.written before.reads h) stay)

-- an event more that says that no more commits are written than a crash keeps
pub read_event : (base : ℕ) (log : Log) (least more : ℕ) (state : State) (journal : List Event) (event : Event) → base ≤ more → least ≤ more → KeepsRead log [] more state →
    written_by event ≤ commits_in base more (placed log) → IsRead base log least state journal → IsRead base log more state (journal ++ event ∷ [])
read_event base log least more state journal event from rises keeps durable read = by_order (cases_lt more read.written)
  where
    there : more ≤ length (placed log)
    there = kept_within log more state keeps

    count : written_of journal ≤ commits_in base read.written (placed log)
    count = read.count

    inside : read.written ≤ length (entries_of log)
    inside = read.within

    by_holds : (read.written ≤ least) ⊎ HoldsWritten log read.written state.reads → (read.written ≤ more) ⊎ HoldsWritten log read.written state.reads
    by_holds (inl low) = inl (omega (arith, low, rises))
    by_holds (inr h) = inr h

    by_order : (more < read.written) ⊎ (read.written ≤ more) → IsRead base log more state (journal ++ event ∷ [])
    by_order (inl above) =
        let up = commits_rise base more read.written (placed log) from (omega (arith, above)) (omega (arith, inside, as_many log)) in
        record {
          written = read.written;
          from = read.from;
          within = read.within;
          count = omega (arith, written-push journal event, count, durable, up);
          holds = by_holds read.holds;
        }
    by_order (inr low) =
        let up = commits_rise base read.written more (placed log) read.from low there in
        record {
          written = more;
          from = from;
          within = omega (arith, there, as_many log);
          count = omega (arith, written-push journal event, count, durable, up);
          holds = inl (omega arith);
        }

-- ---- a run that goes on

module _ {D : Type 0} where
  -- a run with an event more, through whose moments a crash keeps as much of the log with the event, and maybe more behind them
  pub guarded_by : (st : Standing) (log grown : Log) (start : History) (old new : History) (buffer longer : LogBuffer D) (journal : List Event) (event : Event) (begun : Option ℕ) (least : ℕ)
      (logged cut : List (List Change)) →
      (g : IsGuardedLog st log start old buffer journal) →
      RecoversLog g.kept.first st.store g.base logged grown →
      IsGrownFrom g.base log grown →
      attempts_of st (journal ++ event ∷ []) ≡ logged ++ cut →
      KeptThrough old new grown [] g.least →
      synced_of journal ≤ commits_in g.base g.least (placed grown) →
      g.least ≤ least → KeepsRead grown [] least (now new) →
      durable_by event ≤ commits_in g.base least (placed grown) →
      IsRead g.base grown least (now new) (journal ++ event ∷ []) →
      ((after_events st (journal ++ event ∷ [])).fault ≡ None → IsKeeping (now new) longer grown least begun) →
      ((after_events st (journal ++ event ∷ [])).fault ≡ None → CoversSync (after_events st (journal ++ event ∷ [])).begun g.base grown begun) →
      ((after_events st (journal ++ event ∷ [])).fault ≡ None → cut ≡ []) →
      (has_failed longer ≡ false → (after_events st (journal ++ event ∷ [])).fault ≡ None) →
      ((after_events st (journal ++ event ∷ [])).fault ≡ None → ((after_events st journal).fault ≡ None) × (answers_some is_disk_fault event ≡ false)) →
      (has_answer is_disk_fault journal ≡ true → new.moment ≤ old.moment) →
      ((after_events st (journal ++ event ∷ [])).fault ≡ None → KeepsSizes g.most (now start).reads longer grown) →
      IsGuardedLog st grown start new longer (journal ++ event ∷ [])
  guarded_by st log grown start old new buffer longer journal event begun least logged cut g recovers grows attempts through synced rises keeps durable read works covers whole stops quiet still sizes =
      let all : List Event = journal ++ event ∷ [] in
      let first : ℕ = g.kept.first in
      let from : g.base ≤ g.least = g.kept.from in
      let from_now : g.base ≤ least = omega (arith, from, rises) in
      let more = commits_rise g.base g.least least (placed grown) from rises (kept_within grown least (now new) keeps) in
      let synced_now : synced_of all ≤ commits_in g.base least (placed grown) = omega (arith, synced-push journal event, synced, more, durable) in
      let past : (k : ℕ) → start.moment ≤ k → k ≤ new.moment → HoldPrefixes grown (new.state_at k).reads = past_on log grown g.least start old new grows.prefixes g.past through in
      record {
        since = goes_on start old new (IsKeptSince grown [] g.least (now old).reads) g.since through;
        begins = g.begins;
        events = one_more st start.moment old new (IsKeptSince grown [] g.least (now old).reads) start.moment [] journal event through g.events
            (λ k lo hi.
            safe st first g.base grown g.least logged cut journal (event ∷ []) all start.moment new k refl from recovers attempts synced (through.each k lo hi).kept
            (read_on g.base log grown g.least (now old) (new.state_at k) journal grows (through.each k lo hi).stay g.kept.read) (λ j from_start upto. past j from_start (omega (arith, upto, hi))))
            (safe st first g.base grown least logged cut all [] all start.moment new new.moment (sym (append-nil all)) from_now recovers attempts synced_now keeps read past)
            still;
        none_before = g.none_before;
        base = g.base;
        least = least;
        kept = record { from = from_now; first = first; logged = logged; cut = cut; attempts = attempts; recovers = recovers; synced = synced_now; keeps = keeps; read = read };
        begun = begun;
        works = works;
        covers = covers;
        all = whole;
        stops = stops;
        faultless = λ fault. let before_it = quiet fault in none-push is_disk_fault journal event (g.faultless before_it.0) before_it.1;
        files = files_on grown g.least start old new g.since.later g.files through;
        past = past;
        most = g.most;
        sizes = sizes;
      }

  -- the same where the event says that no more commits are written than a crash keeps
  pub guarded_on : (st : Standing) (log grown : Log) (start : History) (old new : History) (buffer longer : LogBuffer D) (journal : List Event) (event : Event) (begun : Option ℕ) (least : ℕ)
      (logged cut : List (List Change)) →
      (g : IsGuardedLog st log start old buffer journal) →
      RecoversLog g.kept.first st.store g.base logged grown →
      IsGrownFrom g.base log grown →
      attempts_of st (journal ++ event ∷ []) ≡ logged ++ cut →
      KeptThrough old new grown [] g.least →
      synced_of journal ≤ commits_in g.base g.least (placed grown) →
      g.least ≤ least → KeepsRead grown [] least (now new) →
      written_by event ≤ commits_in g.base least (placed grown) →
      ((after_events st (journal ++ event ∷ [])).fault ≡ None → IsKeeping (now new) longer grown least begun) →
      ((after_events st (journal ++ event ∷ [])).fault ≡ None → CoversSync (after_events st (journal ++ event ∷ [])).begun g.base grown begun) →
      ((after_events st (journal ++ event ∷ [])).fault ≡ None → cut ≡ []) →
      (has_failed longer ≡ false → (after_events st (journal ++ event ∷ [])).fault ≡ None) →
      ((after_events st (journal ++ event ∷ [])).fault ≡ None → ((after_events st journal).fault ≡ None) × (answers_some is_disk_fault event ≡ false)) →
      (has_answer is_disk_fault journal ≡ true → new.moment ≤ old.moment) →
      ((after_events st (journal ++ event ∷ [])).fault ≡ None → KeepsSizes g.most (now start).reads longer grown) →
      IsGuardedLog st grown start new longer (journal ++ event ∷ [])
  guarded_on st log grown start old new buffer longer journal event begun least logged cut g recovers grows attempts through synced rises keeps written works covers whole stops quiet still sizes =
      let from : g.base ≤ g.least = g.kept.from in
      let low = durable-written event in
      guarded_by st log grown start old new buffer longer journal event begun least logged cut g recovers grows attempts through synced rises keeps (omega (arith, low, written))
      (read_event g.base grown g.least least (now new) journal event (omega (arith, from, rises)) rises keeps written
      (read_on g.base log grown g.least (now old) (now new) journal grows (stay_now grown [] g.least old new through) g.kept.read))
      works covers whole stops quiet still sizes
