-- What reading the files of an environment answers.
use Rattle.std.specs.Prelude.{◌≡◌, ◌≤◌, ℕ, Bool, true, List, Option, None, Some, Result, Ok, IsErrOf, length, map}
use Rattle.std.specs.List.{AllByRecursion}
use Rattle.std.specs.List.Sorted.{IsStrictlyIncreasing}
use Rattle.je_bytes.specs.Reading.{AreBytes}
use Rattle.je_disk.specs.declared.error.DiskErr.{DiskErr}
use Rattle.je_disk.specs.declared.error.DiskErr.TheVariants.{Failed, Memory as OutOfMemory}
use Rattle.je_disk.specs.States.{Files, IsListing}
use Rattle.je_lsn.specs.declared.file_no.FileNo.{FileNo}
use Rattle.je_order.specs.Counts.{HasRisen}
use Rattle.store_model.specs.Store.{record_count}
use Rattle.log_file.specs.Log.{AreFiles, log_in}
use Rattle.log_replay.specs.declared.corruption.Corruption.{Corruption}
use Rattle.log_replay.specs.declared.last_file.LastFile.{LastFile}
use Rattle.log_replay.specs.Reading.{files_read}
use Rattle.log_replay.specs.UnderWay.{IsTailOf}
use Rattle.log_trees.specs.Placed.{Placed, placed}
use Rattle.log_meaning.specs.Checkpoint.{restarted}
use Rattle.log_meaning.specs.Meaning.{Meaning}
use Rattle.log_meaning.specs.Reading.{reading_of}
use Rattle.record_tree.specs.Stored.{AllStored}
use Rattle.recovery_je.specs.declared.recovered.Recovered.{Recovered}
use Rattle.recovery_je.specs.declared.recovering.Meant.{Meant}
use Rattle.recovery_je.specs.declared.read_err.ReadErr.{ReadErr}
use Rattle.recovery_je.specs.declared.read_err.ReadErr.TheVariants.{Memory as ReadMemory, Found}
use Rattle.recovery_je.specs.declared.recover_err.RecoverErr.{RecoverErr}
use Rattle.recovery_je.specs.declared.recover_err.RecoverErr.TheVariants.{Disk, Memory, Corrupt, WrongIndex}
use Rattle.log_replay.specs.Indexed.{wrong_index}
use Rattle.recovery_je.specs.Indexing.{IsIndexCheck}
use Rattle.recovery_je.specs.Putting.{count_redone}
use Rattle.recovery_je.specs.Recovering.{HasTrees}

-- ---- errors

-- the error where the disk failed or memory ran out
abbrev pub disk_error : DiskErr → RecoverErr
disk_error Failed = Disk
disk_error OutOfMemory = Memory

-- the error where a log was not read
abbrev pub read_error : ReadErr → RecoverErr
read_error ReadMemory = Memory
read_error (Found corruption) = Corrupt corruption

-- an error that is not the disk's
abbrev pub IsNoDiskErr : RecoverErr → Type 0
IsNoDiskErr Disk = ⊥
IsNoDiskErr e = Unit {0}

-- what holds of the corruption that an error tells
abbrev pub IsCorruptBy : RecoverErr → (Corruption → Type 0) → Type 0
IsCorruptBy (Corrupt corruption) P = P corruption
IsCorruptBy e P = Unit {0}

-- what holds of the index that an error tells
abbrev pub IsIndexBy : RecoverErr → (List ℕ → Type 0) → Type 0
IsIndexBy (WrongIndex name) P = P name
IsIndexBy e P = Unit {0}

-- an error that tells the first wrong index
abbrev pub IsFirstWrong : Option (List ℕ) → RecoverErr → Type 0
IsFirstWrong wrong e = (name : List ℕ) × (e ≡ WrongIndex name) × (wrong ≡ Some name)

-- the count of faults never falls, and a call says that the disk failed only where the count rose
pub record HasCauseOf {T : Type 0} (before after : ℕ) (result : Result T RecoverErr) : Type 0 where
  pub never_falls : before ≤ after
  pub failed : IsErrOf result Disk → HasRisen before after

-- ---- answers

-- what a log means, as an environment that was recovered
abbrev pub recovered_with : {T : Type 0} → Meant T → Option LastFile → Recovered T
recovered_with meant tail = record {
  trees = meant.settled.trees;
  opening = meant.settled.opening;
  databases = meant.settled.databases;
  records = meant.settled.records;
  last_txn = meant.last_txn;
  last_node = meant.last_node;
  last_db = meant.last_db;
  checkpoint = meant.checkpoint;
  redo = meant.redo;
  redone = meant.redone;
  tail = tail;
}

-- what holds of the files of these numbers: with the bytes that they have, if the disk is observable, and as all of the disk's files,
-- where these numbers are its listing
pub record IsReadingOf (observable : Bool) (reads : Files) (files : List FileNo) (P : List (ℕ × List ℕ) → Type 0) : Type 0 where
  pub held : List (ℕ × List ℕ)
  pub numbers : map (λ file. file.0) held ≡ map (λ f. f.0) files
  pub observed : observable ≡ true → held ≡ files_read reads files
  pub listed : observable ≡ true → IsListing reads files → AreFiles reads held
  pub is : P held

-- what holds of the files of a disk
pub record HasFiles (observable : Bool) (reads : Files) (P : List (ℕ × List ℕ) → Type 0) : Type 0 where
  pub held : List (ℕ × List ℕ)
  pub are : observable ≡ true → AreFiles reads held
  pub is : P held

-- files mean a store in which the index of that name is the first without the pairs of its primary's records
pub record HasWrongIndex (name : List ℕ) (held : List (ℕ × List ℕ)) : Type 0 where
  pub meaning : Meaning
  pub reads : reading_of held ≡ Ok meaning
  pub wrong : wrong_index meaning.store ≡ Some name

-- files mean this, with so many entries that count for nodes that were made, and the environment has these trees, of which more is said of the files' entries
pub record IsRecoveredFrom (meaning : Meaning) (has : ℕ → Bool) (stored : AllStored) (databases records redone : ℕ) (tail : Option LastFile) (fits : List Placed → Type 0) (held : List (ℕ × List ℕ)) : Type 0 where
  pub bytes : AllByRecursion (λ file. AreBytes file.1) held
  pub rising : IsStrictlyIncreasing (map (λ file. file.0) held)
  pub meaning_is : reading_of held ≡ Ok meaning
  pub trees : HasTrees (restarted (placed (log_in held))) has stored
  pub databases_are : databases ≡ length meaning.store.databases
  pub records_are : records ≡ record_count meaning.store
  pub redone_are : redone ≡ count_redone (placed (log_in held))
  pub tail_is : IsTailOf held tail
  pub fit : fits (placed (log_in held))
  pub indexed : IsIndexCheck meaning.store None
