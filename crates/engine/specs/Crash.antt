-- What a crash leaves of an environment while it runs.
use Rattle.std.specs.Prelude.{ℕ, ◌≡◌, ◌≤◌, ◌<◌, ◌⊎◌, ◌++◌, ◌∷◌, [], List, Option, None, Ok, true, take, option_map}
use Rattle.je_disk.specs.States.{Files, State, content, synced_crash_state}
use Rattle.je_disk.specs.Moments.{History, Passes, now}
use Rattle.store_model.specs.declared.event.Event.{Event}
use Rattle.store_model.specs.declared.store.Store.{Store}
use Rattle.je_answers.specs.Standing.{Standing}
use Rattle.je_answers.specs.Journal.{attempts_of, has_answer, is_disk_fault, synced_of}
use Rattle.je_answers.specs.Written.{written_of}
use Rattle.log_file.specs.declared.valid_prefix.ValidPrefix.{ValidPrefix}
use Rattle.log_file.specs.declared.file_scan.FileScan.TheVariants.{Prefix}
use Rattle.log_file.specs.Log.{AreFiles}
use Rattle.log_file.specs.Scan.{scan_of}
use Rattle.log_buffer.specs.Chance.{IsLeftAt}
use Rattle.log_buffer.specs.Crash.{FilesStay}
use Rattle.log_meaning.specs.Meaning.{Meaning}
use Rattle.log_meaning.specs.Reading.{reading_of}
use Rattle.crash_recovery.specs.Recovery.{IsImageRecovered}
use Rattle.engine.specs.Files.{MeanStore}

-- one history goes on as the other, whatever came
abbrev pub Follows : History → History → Type 0
Follows old new = Passes old new (λ s. Unit {0})

-- Of a run that began at the moment `since`, where the model stood at `st`, some events are over at a moment while one may be under way. What the disk
-- reads then, and each image in which no checksum matches by chance, means the opening store changed by the first attempted commits: an image at least
-- the synced ones, and what the disk reads at least those that were written.
pub record IsSafe (st : Standing) (since : ℕ) (history : History) (moment : ℕ) (over under_way : List Event) : Type 0 where
  pub read : IsImageRecovered st.store (written_of over) (attempts_of st (over ++ under_way)) (history.state_at moment).reads
  pub images : (image : Files) → IsLeftAt since history moment image → IsImageRecovered st.store (synced_of over) (attempts_of st (over ++ under_way)) image

-- where one of these events met a disk fault, the disk's state is from one moment to another what it was at the first
abbrev pub IsStillAfterFault : History → ℕ → ℕ → List Event → Type 0
IsStillAfterFault history from to over = has_answer is_disk_fault over ≡ true → (k : ℕ) → from < k → k ≤ to → history.state_at k ≡ history.state_at from

-- An event begins behind one moment and ends at another: at each moment between them, and behind it, the disk is safe; behind a fault it stands still.
pub record IsSafeEvent (st : Standing) (since : ℕ) (history : History) (from to : ℕ) (over : List Event) (event : Event) : Type 0 where
  pub later : from ≤ to
  pub within : to ≤ history.moment
  pub during : (k : ℕ) → from < k → k ≤ to → IsSafe st since history k over (event ∷ [])
  pub behind : IsSafe st since history to (over ++ event ∷ []) []
  pub still : IsStillAfterFault history from to over

-- events end at moments one after another, each safe, and this holds of the last moment and of all events
abbrev pub AreSafeEvents : Standing → ℕ → History → (ℕ → List Event → Type 0) → ℕ → List Event → List Event → Type 0
AreSafeEvents st since history Last from over [] = Last from over
AreSafeEvents st since history Last from over (event ∷ events) =
    (to : ℕ) × IsSafeEvent st since history from to over event × AreSafeEvents st since history Last to (over ++ event ∷ []) events

-- from a moment on no event is under way, and the disk is safe; behind a fault it stands still
pub record IsSafeBehind (st : Standing) (since : ℕ) (history : History) (from : ℕ) (over : List Event) : Type 0 where
  pub safe : (k : ℕ) → from < k → k ≤ history.moment → IsSafe st since history k over []
  pub still : IsStillAfterFault history from history.moment over

-- A run that began behind this history, with the model at `st`: the disk is safe as it began, at each moment of the events of its journal, and at
-- each moment behind them. Each file that was there as it began is there at each moment.
pub record IsSafeRun (st : Standing) (start : History) (history : History) (journal : List Event) : Type 0 where
  pub since : Follows start history
  pub begins : IsSafe st start.moment start start.moment [] []
  pub events : AreSafeEvents st start.moment history (IsSafeBehind st start.moment history) start.moment [] journal
  pub files : (k : ℕ) → start.moment ≤ k → k ≤ history.moment → FilesStay (now start).reads (history.state_at k).reads

-- ---- from entry on

-- each image at a moment in which no checksum matches by chance, beside what the disk read from another moment on, means this store
abbrev pub ImagesMean : ℕ → History → ℕ → Store → Type 0
ImagesMean since history moment store = (image : Files) → IsLeftAt since history moment image → MeanStore image store

-- nothing is pending: a crash keeps what the files read as, and nothing else
abbrev pub NothingPending : State → Type 0
NothingPending state = (f : ℕ) → state.crash_states f ≡ synced_crash_state (state.reads f)

-- what followed the valid prefix of the last file was cut off
pub record IsTailCut (entry : Files) (f : ℕ) (file : Option (List ℕ)) : Type 0 where
  pub run : ValidPrefix
  pub found : scan_of f (content entry f) ≡ Prefix run
  pub last : (g : ℕ) → f < g → entry g ≡ None
  pub cut : file ≡ option_map (take run.end) (entry f)

-- each file reads as it did at entry, but for a torn tail of the last one that was cut off
abbrev pub ReadAsAtEntry : Files → Files → Type 0
ReadAsAtEntry entry reads = (f : ℕ) → (reads f ≡ entry f) ⊎ IsTailCut entry f (reads f)

-- At each moment since entry each file reads as it did at entry, but for a torn tail. The files at entry meant a store: where nothing was
-- pending then, they mean it still at each moment since, whatever image a crash leaves; and where nothing is pending at the end, they mean
-- it at the end.
pub record KeepsEntry (old new : History) : Type 0 where
  pub since : Follows old new
  pub reads : (k : ℕ) → old.moment ≤ k → k ≤ new.moment → ReadAsAtEntry (now old).reads (new.state_at k).reads
  pub images : NothingPending (now old) → (held : List (ℕ × List ℕ)) (meaning : Meaning) → AreFiles (now old).reads held → reading_of held ≡ Ok meaning
      → (k : ℕ) → old.moment ≤ k → k ≤ new.moment → ImagesMean old.moment new k meaning.store
  pub at_end : NothingPending (now new) → (held : List (ℕ × List ℕ)) (meaning : Meaning) → AreFiles (now old).reads held → reading_of held ≡ Ok meaning
      → ImagesMean old.moment new new.moment meaning.store
