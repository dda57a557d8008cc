-- What the parts of a run keep of its log. No clause of the top call speaks of these.
use Rattle.std.specs.Prelude.{ℕ, ◌≡◌, ◌≤◌, ◌⊎◌, [], ◌++◌, length, List, Option, None, Some, Bool, true, false}
use Rattle.je_disk.specs.States.{State}
use Rattle.je_disk.specs.Moments.{History, now}
use Rattle.store_model.specs.declared.change.Change.{Change}
use Rattle.store_model.specs.declared.event.Event.{Event}
use Rattle.je_answers.specs.Standing.{Standing}
use Rattle.je_answers.specs.After.{after_events}
use Rattle.je_answers.specs.Journal.{attempts_of, has_answer, is_disk_fault, synced_of}
use Rattle.je_answers.specs.Written.{written_of}
use Rattle.log_file.specs.Log.{Log, entries_of}
use Rattle.log_buffer.specs.declared.buffer.LogBuffer.{LogBuffer}
use Rattle.log_buffer.specs.Buffer.{first_of, has_failed}
use Rattle.log_buffer.specs.Crash.{FilesStay, HoldPrefixes, Holds, KeepsRead}
use Rattle.log_buffer.specs.Log.{HasLog}
use Rattle.log_buffer.specs.Written.{HoldsWritten}
use Rattle.log_trees.specs.Placed.{placed}
use Rattle.log_meaning.specs.Recovery.{commits_in}
use Rattle.crash_recovery.specs.Recovery.{RecoversLog}
use Rattle.engine.specs.Crash.{AreSafeEvents, Follows, IsSafe}
use Rattle.engine.specs.Lengths.{KeepsSizes}

-- what the disk reads holds at least so many of a log's entries: a crash keeps them, or they were written
abbrev pub HoldsRead : Log → ℕ → ℕ → State → Type 0
HoldsRead log least written state = (written ≤ least) ⊎ HoldsWritten log written state.reads

-- What the disk reads of a log of which a crash keeps so many entries: behind the first `base`, those that commit the written transactions.
pub record IsRead (base : ℕ) (log : Log) (least : ℕ) (state : State) (journal : List Event) : Type 0 where
  pub written : ℕ
  pub from : base ≤ written
  pub within : written ≤ length (entries_of log)
  pub count : written_of journal ≤ commits_in base written (placed log)
  pub holds : HoldsRead log least written state

-- What a run that began at `st` has kept so far of its log, which had `base` entries then. Those behind them are of the transactions that its
-- journal attempted; only one that was cut short by a fault may not be among them. A crash keeps at least `least` of all, with the synced commits; and
-- the disk reads those that were written.
pub record IsKept (st : Standing) (base : ℕ) (log : Log) (least : ℕ) (state : State) (journal : List Event) : Type 0 where
  pub from : base ≤ least
  pub first : ℕ
  pub logged : List (List Change)
  pub cut : List (List Change)
  pub attempts : attempts_of st journal ≡ logged ++ cut
  pub recovers : RecoversLog first st.store base logged log
  pub synced : synced_of journal ≤ commits_in base least (placed log)
  pub keeps : KeepsRead log [] least state
  pub read : IsRead base log least state journal

-- A sync is out that began when so many transactions were committed: once it has ended a crash keeps entries that commit them all. Where none is out nothing is said.
abbrev pub CoversSync : Option ℕ → ℕ → Log → Option ℕ → Type 0
CoversSync None base log begun = Unit {0}
CoversSync (Some commits) base log None = ⊥
CoversSync (Some commits) base log (Some entries) = (entries ≤ length (entries_of log)) × (commits ≤ commits_in base entries (placed log))

module _ {D : Type 0} where
  -- the buffer has this log; a crash keeps at least so many of its entries, and more once a sync that is out has ended
  pub record IsKeeping (state : State) (buffer : LogBuffer D) (log : Log) (least : ℕ) (begun : Option ℕ) : Type 0 where
    pub has : HasLog true state buffer log
    pub holds : Holds log [] least begun (first_of buffer) state

  -- A run under way whose disk was safe at each moment of it, and the log that it has now. What the disk read at each moment was a prefix of that log. A buffer that works
  -- has met no fault, and has the log, each file of which is as long as it may be, beside what it was as the run began.
  pub record IsGuardedLog (st : Standing) (log : Log) (start : History) (history : History) (buffer : LogBuffer D) (journal : List Event) : Type 0 where
    pub since : Follows start history
    pub begins : IsSafe st start.moment start start.moment [] []
    pub events : AreSafeEvents st start.moment history (λ from over. from ≡ history.moment) start.moment [] journal
    pub none_before : st.commits ≡ 0
    pub base : ℕ
    pub least : ℕ
    pub kept : IsKept st base log least (now history) journal
    pub begun : Option ℕ
    pub works : (after_events st journal).fault ≡ None → IsKeeping (now history) buffer log least begun
    pub covers : (after_events st journal).fault ≡ None → CoversSync (after_events st journal).begun base log begun
    pub all : (after_events st journal).fault ≡ None → kept.cut ≡ []
    pub stops : has_failed buffer ≡ false → (after_events st journal).fault ≡ None
    pub faultless : (after_events st journal).fault ≡ None → has_answer is_disk_fault journal ≡ false
    pub files : (k : ℕ) → start.moment ≤ k → k ≤ history.moment → FilesStay (now start).reads (history.state_at k).reads
    pub past : (k : ℕ) → start.moment ≤ k → k ≤ history.moment → HoldPrefixes log (history.state_at k).reads
    pub most : ℕ
    pub sizes : (after_events st journal).fault ≡ None → KeepsSizes most (now start).reads buffer log

  -- a buffer that works has this log, and a crash keeps at least so many of its entries
  abbrev pub KeepsIfWorks : Bool → State → LogBuffer D → Log → ℕ → Type 0
  KeepsIfWorks failed state buffer log least = failed ≡ false → IsKeeping state buffer log least None
