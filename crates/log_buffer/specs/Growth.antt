-- How a log grows: what a call that appends says of the log, and all that the layers above see of it.
use Rattle.std.specs.Prelude.{◌≡◌, ℕ, true, List, [], ◌∷◌, ◌++◌, Option, map}
use Rattle.je_disk.specs.DiskMeaning.{DiskMeaning}
use Rattle.je_disk.specs.Moments.{now}
use Rattle.log_entry.specs.declared.entry.Entry.{Entry}
use Rattle.log_entry.specs.Encoding.{size_of}
use Rattle.log_file.specs.Log.{Log}
use Rattle.log_buffer.specs.declared.buffer.LogBuffer.{LogBuffer}
use Rattle.log_buffer.specs.declared.log_pos.LogPos.{LogPos}
use Rattle.log_buffer.specs.Buffer.{disk_of, first_of, end_of, file_max_of, has_failed, IsUnchanged}
use Rattle.log_buffer.specs.Crash.{Holds, KeptThrough}
use Rattle.log_buffer.specs.Flip.{placed_at, end_after, end_after_all}
use Rattle.log_buffer.specs.Log.{HasLog, log_with}

-- a log that ends here, with entries more, each in its last file or in a next one
abbrev pub log_with_all : ℕ → LogPos → List Entry → Log → Log
log_with_all most end [] log = log
log_with_all most end (entry ∷ entries) log =
    log_with_all most (end_after most end (size_of entry)) entries (log_with (placed_at most end (size_of entry)).file entry log)

module _ {D : Type 0} where
  -- the log of a buffer with entries more
  abbrev pub longer : LogBuffer D → List Entry → Log → Log
  longer buffer entries log = log_with_all (file_max_of buffer) (end_of buffer) entries log

  -- the jobs that are out are those that were out before
  pub record SameJobs (meaning : DiskMeaning D) (old new : D) : Type 0 where
    pub syncs : meaning.sync_out new ≡ meaning.sync_out old
    pub reads : meaning.read_out new ≡ meaning.read_out old
    pub file : meaning.read_of new ≡ meaning.read_of old

  -- Over an observable disk, at each moment since a crash keeps of the longer log what it kept of the log before.
  abbrev pub KeepsLonger : DiskMeaning D → LogBuffer D → LogBuffer D → List Entry → Type 0
  KeepsLonger meaning old new entries =
      meaning.observable ≡ true → (log removed : Log) (least : ℕ) (begun : Option ℕ) → HasLog meaning.observable (now (meaning.history (disk_of old))) old log → Holds log removed least begun (first_of old) (now (meaning.history (disk_of old)))
      → KeptThrough (meaning.history (disk_of old)) (meaning.history (disk_of new)) (longer old entries log) removed least

  -- From the old value to the new one the log got these entries and no others, and no call met a fault.
  pub record Grew (meaning : DiskMeaning D) (old new : LogBuffer D) (entries : List Entry) : Type 0 where
    pub log : (log : Log) → HasLog meaning.observable (now (meaning.history (disk_of old))) old log → HasLog meaning.observable (now (meaning.history (disk_of new))) new (longer old entries log)
    pub crash : KeepsLonger meaning old new entries
    pub holds : meaning.observable ≡ true → (log removed : Log) (least : ℕ) (begun : Option ℕ) → HasLog meaning.observable (now (meaning.history (disk_of old))) old log → Holds log removed least begun (first_of old) (now (meaning.history (disk_of old)))
        → Holds (longer old entries log) removed least begun (first_of new) (now (meaning.history (disk_of new)))
    pub end : end_of new ≡ end_after_all (file_max_of old) (end_of old) (map size_of entries)
    pub max : file_max_of new ≡ file_max_of old
    pub failed : has_failed new ≡ has_failed old
    pub jobs : SameJobs meaning (disk_of old) (disk_of new)

  -- From the old value to the new one these entries were appended, or the last of them was being appended, and the disk failed.
  pub record Tried (meaning : DiskMeaning D) (old new : LogBuffer D) (entries : List Entry) : Type 0 where
    pub crash : KeepsLonger meaning old new entries
    pub max : file_max_of new ≡ file_max_of old
    pub failed : has_failed new ≡ true
    pub jobs : SameJobs meaning (disk_of old) (disk_of new)

  -- ---- what holds of all buffers

  -- where nothing happens the log gets nothing
  abbrev pub GrewNone : DiskMeaning D → Type 0
  GrewNone meaning = (x : LogBuffer D) → Grew meaning x x []

  -- nor where a call says that nothing changed
  abbrev pub GrewUnchanged : DiskMeaning D → Type 0
  GrewUnchanged meaning = (x y : LogBuffer D) → IsUnchanged x y → Grew meaning x y []

  -- it gets the entries of one call and behind them those of the next
  abbrev pub GrewThen : DiskMeaning D → Type 0
  GrewThen meaning = (x y z : LogBuffer D) (a b : List Entry)
      → Grew meaning x y a → Grew meaning y z b → Grew meaning x z (a ++ b)

  -- the same where the next one met a fault
  abbrev pub TriedThen : DiskMeaning D → Type 0
  TriedThen meaning = (x y z : LogBuffer D) (a b : List Entry)
      → Grew meaning x y a → Tried meaning y z b → Tried meaning x z (a ++ b)

  -- nor does it matter which entries were to follow: a crash keeps as much of the log with these
  abbrev pub TriedMore : DiskMeaning D → Type 0
  TriedMore meaning = (x y : LogBuffer D) (a b : List Entry)
      → Tried meaning x y a → Tried meaning x y (a ++ b)
