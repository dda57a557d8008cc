-- What a crash leaves of a log, where no torn entry passes for a whole one.
use Rattle.std.specs.Prelude.{◌≡◌, ◌≢◌, ◌⊎◌, ◌≤◌, ◌<◌, ◌+◌, ◌==◌, ℕ, Option, Some, None, List, [], ◌∷◌, ◌++◌, length, map, take, drop}
use Rattle.std.specs.Map.{lookup}
use Rattle.je_bytes.specs.Reading.{AreBytes}
use Rattle.je_disk.specs.States.{Files, CrashState, State, content, cut, synced_crash_state}
use Rattle.je_disk.specs.Images.{AreFileImages, IsImage}
use Rattle.je_disk.specs.Moments.{History}
use Rattle.log_entry.specs.declared.entry.Entry.{Entry}
use Rattle.log_entry.specs.declared.entry.Entry.TheVariants.{FileHeader}
use Rattle.log_entry.specs.declared.decoder.Decoded.TheVariants.{Whole}
use Rattle.log_entry.specs.Reading.{decoded}
use Rattle.log_file.specs.declared.valid_prefix.ValidPrefix.{ValidPrefix}
use Rattle.log_file.specs.declared.file_scan.FileScan.{FileScan}
use Rattle.log_file.specs.declared.file_scan.FileScan.TheVariants.{Prefix}
use Rattle.log_file.specs.Scan.{scan_of, sizes_of}
use Rattle.log_file.specs.Log.{Log, IsLog, AreFiles, file_bytes, files_of_log, entries_scanned, entries_of, log_in}
use Rattle.log_file.specs.Placed.{HasFirst}
use Rattle.log_buffer.specs.Crash.{KeepsLog, KeepsFront, HoldLogged, HoldPrefixes}

-- an entry stands in a file so many bytes behind its header
abbrev pub IsInPlace : ℕ → Entry → List Entry → Type 0
IsInPlace at entry entries = (before : List Entry) × (after : List Entry) × (entries ≡ before ++ entry ∷ after) × (sizes_of before ≡ at)

-- what is found of a file in an image was once read there: each entry of the valid prefix, at its place; or else the same was found
abbrev pub WasFound : (ℕ → List ℕ → Type 0) → ℕ → FileScan → Type 0
WasFound past f (Prefix prefix) = (at : ℕ) (entry : Entry) → IsInPlace at entry prefix.entries → (read : List ℕ) × past f read × IsInPlace at entry (entries_scanned (scan_of f read))
WasFound past f found = (read : List ℕ) × past f read × (scan_of f read ≡ found)

-- the disk reads a file, or reads none behind it: it is not one that is missing among others
abbrev pub MayBeRead : Files → ℕ → Type 0
MayBeRead reads f = ((bytes : List ℕ) × (reads f ≡ Some bytes)) ⊎ ((g : ℕ) → f < g → reads g ≡ None)

-- what the disk read in a file at a moment from one on, up to another
abbrev pub ReadSince : ℕ → History → ℕ → ℕ → List ℕ → Type 0
ReadSince since history k f read = (j : ℕ) × (since ≤ j) × (j ≤ k) × (content (history.state_at j).reads f ≡ read)

-- No checksum matches by chance: in each file that the disk reads, and behind the last of them, what is found in the image was once read.
abbrev pub NoChanceMatch : (ℕ → List ℕ → Type 0) → Files → Files → Type 0
NoChanceMatch past reads image = (f : ℕ) → MayBeRead reads f → WasFound past f (scan_of f (content image f))

-- An image that a crash may leave at a moment, in which no checksum matches by chance, beside all that the disk read from another moment on.
pub record IsLeftAt (since : ℕ) (history : History) (k : ℕ) (image : Files) : Type 0 where
  pub is : IsImage (history.state_at k) image
  pub chance : NoChanceMatch (ReadSince since history k) (history.state_at k).reads image

-- what is there of a file, if the log has it
abbrev pub if_logged : {A B : Type 0} → Option A → Option B → Option B
if_logged None there = None
if_logged (Some _) there = there

-- the files that are the log's
abbrev pub among : Log → Files → Files
among log image f = if_logged (lookup (λ n. n == f) log) (image f)

-- files hold the log's first entries, at least so many, each at its place, and are its first files
pub record AreFirst (log : Log) (least : ℕ) (held : List (ℕ × List ℕ)) : Type 0 where
  pub places : HasFirst log (log_in held)
  pub more : List Entry
  pub entries : entries_of log ≡ entries_of (log_in held) ++ more
  pub at_least : least ≤ length (entries_of (log_in held))
  pub later : List ℕ
  pub numbers : map (λ file. file.0) log ≡ map (λ file. file.0) held ++ later

-- a file has a header, or ends within it, and no other damage
pub record HasPrefix (file : ℕ × List ℕ) : Type 0 where
  pub prefix : ValidPrefix
  pub found : scan_of file.0 file.1 ≡ Prefix prefix

-- a file is a header and entries, and nothing follows them
pub record IsAllPrefix (file : ℕ × List ℕ) : Type 0 where
  pub prefix : ValidPrefix
  pub found : scan_of file.0 file.1 ≡ Prefix prefix
  pub headed : 0 < prefix.end
  pub ends : prefix.end ≡ length file.1

-- the last file alone may have a torn end
abbrev pub AreWholeButLast : List (ℕ × List ℕ) → Type 0
AreWholeButLast [] = Unit {0}
AreWholeButLast (file ∷ []) = HasPrefix file
AreWholeButLast (file ∷ next ∷ files) = IsAllPrefix file × AreWholeButLast (next ∷ files)

-- a file of this number, if there is one, was removed, and is as it was
abbrev pub IsRemoved : Log → ℕ → Option (List ℕ) → Type 0
IsRemoved removed f None = Unit {0}
IsRemoved removed f (Some bytes) = (entries : List Entry) × (lookup (λ n. n == f) removed ≡ Some entries) × (bytes ≡ file_bytes f entries)

-- a file of this number, if there is one, is not above all of the log's
abbrev pub IsUpToLog : Log → ℕ → Option (List ℕ) → Type 0
IsUpToLog log f None = Unit {0}
IsUpToLog log f (Some bytes) = (g : ℕ) × (entries : List Entry) × (f ≤ g) × (lookup (λ n. n == g) log ≡ Some entries)

-- what a crash leaves: of the log its first entries, at least so many, and besides only files that were removed, as they were
pub record LeavesLog (log removed : Log) (least : ℕ) (image : Files) : Type 0 where
  pub first : (held : List (ℕ × List ℕ)) → AreFiles (among log image) held → AreFirst log least held
  pub whole : (held : List (ℕ × List ℕ)) → AreFiles image held → AreWholeButLast held
  pub others : (f : ℕ) → lookup (λ n. n == f) log ≡ None → IsRemoved removed f (image f)
  pub within : (f : ℕ) → IsUpToLog log f (image f)

-- what a crash keeps of a log is in each image, where what the disk once read holds prefixes of what the log has in its files
abbrev pub KeptIsLeft : Type 0
KeptIsLeft = (log removed : Log) (least : ℕ) (state : State) (image : Files) → IsLog log → KeepsLog log removed least state.crash_states → AreFileImages state.crash_states state.reads → AreFileImages state.crash_states image
    → NoChanceMatch (HoldLogged log) state.reads image → LeavesLog log removed least image

-- so it is where all that the disk read so far holds prefixes of the log
abbrev pub PastIsHeld : Type 0
PastIsHeld = (log : Log) (since : ℕ) (history : History) (k : ℕ) (image : Files) → ((j : ℕ) → since ≤ j → j ≤ k → HoldPrefixes log (history.state_at j).reads) → IsLeftAt since history k image
    → NoChanceMatch (HoldLogged log) (history.state_at k).reads image

-- ---- which images meet the premise: those of which each file does

-- what the disk reads meets it, whatever that is
abbrev pub ReadsHaveNoChance : Type 0
ReadsHaveNoChance = (since : ℕ) (history : History) (k : ℕ) → since ≤ k → NoChanceMatch (ReadSince since history k) (history.state_at k).reads (history.state_at k).reads

-- a file as it once was, also one that was removed
abbrev pub OnceReadIsFound : Type 0
OnceReadIsFound = (since : ℕ) (history : History) (k f : ℕ) (read : List ℕ) → ReadSince since history k f read → WasFound (ReadSince since history k) f (scan_of f read)

-- a file that was cut short and not changed otherwise
abbrev pub CutIsFound : Type 0
CutIsFound = (since : ℕ) (history : History) (k f len : ℕ) (read : List ℕ) → ReadSince since history k f read → HasPrefix (f, read) → WasFound (ReadSince since history k) f (scan_of f (take len read))

-- each whole entry of a file's bytes from an offset on is the one of these that was appended there, and none goes on behind the last of them
abbrev pub AreAppended : ℕ → ℕ → List Entry → List ℕ → Type 0
AreAppended prev at [] bytes = (found : Entry) (len : ℕ) → decoded bytes ≡ Whole found prev len → ⊥
AreAppended prev at (entry ∷ entries) bytes =
    (found : Entry) (field len : ℕ) → decoded bytes ≡ Whole found field len → (found ≡ entry) × (field ≡ prev) × AreAppended at (at + len) entries (drop len bytes)

-- a file in which what reads as a whole entry was appended there: it is the header, or one of the entries that the disk once read
abbrev pub AppendedAreFound : Type 0
AppendedAreFound = (since : ℕ) (history : History) (k f : ℕ) (read bytes : List ℕ) → ReadSince since history k f read → HasPrefix (f, read) → AreBytes bytes
    → AreAppended 0 0 (FileHeader 1 f ∷ entries_scanned (scan_of f read)) bytes → WasFound (ReadSince since history k) f (scan_of f bytes)

-- ---- as a log is opened

-- the files are this log's, all stable, but for its last one
abbrev pub AreStableBut : ℕ → Log → (ℕ → CrashState) → Type 0
AreStableBut f before crash_states = (g : ℕ) → g ≢ f → crash_states g ≡ synced_crash_state (files_of_log before g)

-- a log's last file is kept with all its entries, whatever follows them; one that is to be begun may have any bytes
abbrev pub LastIsKept : ℕ → List Entry → (ℕ → CrashState) → Type 0
LastIsKept f entries crash_states = (entries ≡ []) ⊎ KeepsFront (file_bytes f entries) (crash_states f)

-- a crash keeps all of a log whose last file has a torn end, before that is cut off and behind it
pub record IsKeptByCut (before : Log) (f : ℕ) (entries : List Entry) (state : State) : Type 0 where
  pub found : KeepsLog (before ++ (f, entries) ∷ []) [] (length (entries_of (before ++ (f, entries) ∷ []))) state.crash_states
  pub behind : (len : ℕ) → (len ≡ length (file_bytes f entries)) ⊎ (entries ≡ []) → KeepsLog (before ++ (f, entries) ∷ []) [] (length (entries_of (before ++ (f, entries) ∷ []))) (cut f len state).crash_states

abbrev pub CutsKeep : Type 0
CutsKeep = (before : Log) (f : ℕ) (entries : List Entry) (state : State) → AreStableBut f before state.crash_states → LastIsKept f entries state.crash_states → IsKeptByCut before f entries state
