-- What a disk passes while a write buffer is written.
use Rattle.std.specs.Prelude.{◌≡◌, ◌<◌, ◌⊎◌, ℕ, None, List, [], ◌∷◌, length}
use Rattle.je_disk.specs.States.{Files, State, created, appended, synced, IsEither, IsPartOfAppend}
use Rattle.log_file.specs.Log.{Log, IsLog, files_of_log}
use Rattle.log_buffer.specs.Buffer.{joined}

-- a write buffer has the rest of each of the log's files, and the files above `first` begin in it
pub record IsUnwrittenOf (log : Log) (reads : Files) (unwritten : ℕ → List ℕ) (first : ℕ) : Type 0 where
  pub is_log : IsLog log
  pub observed : (f : ℕ) → joined (reads f) (unwritten f) ≡ files_of_log log f
  pub ahead : (f : ℕ) → first < f → reads f ≡ None

-- some bytes are being put behind a file's
pub record IsPutBehind (f : ℕ) (bytes : List ℕ) (before s : State) : Type 0 where
  pub some : 0 < length bytes
  pub part : IsPartOfAppend f bytes before s

-- a file is being made, behind a sync of what was there
abbrev pub IsMadeNext : ℕ → State → State → Type 0
IsMadeNext f before s = IsEither before (synced before) s ⊎ IsEither (synced before) (created f (synced before)) s

-- a file is being begun, behind a sync of what was there
abbrev pub IsPutNext : ℕ → List ℕ → State → State → Type 0
IsPutNext f bytes before s =
    IsEither before (synced before) s ⊎ (IsEither (synced before) (created f (synced before)) s ⊎ IsPartOfAppend f bytes (created f (synced before)) s)

-- bytes stand behind a file's; where there are none nothing was written
abbrev pub put_behind : ℕ → List ℕ → State → State
put_behind f [] s = s
put_behind f (byte ∷ bytes) s = appended f (byte ∷ bytes) s
