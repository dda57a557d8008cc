-- What holds of all files and logs.
use Rattle.std.specs.Prelude.{◌≡◌, ℕ, ◌+◌, ◌<◌, ◌≤◌, ◌^◌, true, List, [], ◌∷◌, ◌++◌, length, take, drop}
use Rattle.je_bytes.specs.Reading.{AreBytes}
use Rattle.je_disk.specs.States.{Files}
use Rattle.log_entry.specs.declared.entry.Entry.{Entry}
use Rattle.log_entry.specs.declared.decoder.Decoded.TheVariants.{Whole, Torn as NotWhole}
use Rattle.log_entry.specs.declared.decoder.Torn.{Torn}
use Rattle.log_entry.specs.Body.{IsEntry}
use Rattle.log_entry.specs.Encoding.{encoding, size_of}
use Rattle.log_entry.specs.Reading.{decoded}
use Rattle.log_entry.specs.Prefix.{last_from}
use Rattle.log_file.specs.declared.valid_prefix.ValidPrefix.{ValidPrefix}
use Rattle.log_file.specs.declared.file_scan.FileScan.TheVariants.{Prefix}
use Rattle.log_file.specs.Scan.{may_follow, prefix_with, scan_of, sizes_of}
use Rattle.log_file.specs.Log.{Log, IsLog, file_bytes, AreFileEntries, AreFiles, files_of_log, log_in}

-- entries that are encoded as a file are its valid prefix, also before a torn tail that begins with no whole entry
abbrev pub AreFoundAgain : Type 0
AreFoundAgain = (f : ℕ) (entries : List Entry) (rest : List ℕ) (torn : Torn) → f < 2 ^ 32 → AreFileEntries entries → decoded rest ≡ NotWhole torn
    → scan_of f (file_bytes f entries ++ rest) ≡ Prefix (prefix_with entries)

-- the file's bytes begin with the valid prefix's encoding
pub record IsEncodedBack (f : ℕ) (bytes : List ℕ) (prefix : ValidPrefix) : Type 0 where
  pub parts : take prefix.end bytes ≡ file_bytes f prefix.entries
  pub within : prefix.end ≤ length bytes
  pub entries : AreFileEntries prefix.entries
  pub prefix_is : prefix ≡ prefix_with prefix.entries

-- the valid prefix of any file that has a header is encoded as the file begins
abbrev pub AreEncodedBack : Type 0
AreEncodedBack = (f : ℕ) (bytes : List ℕ) (prefix : ValidPrefix) → AreBytes bytes → scan_of f bytes ≡ Prefix prefix → 0 < prefix.end → IsEncodedBack f bytes prefix

-- no valid prefix is longer: where an entry follows it that names its last one, that is a header or would end past the limit
abbrev pub AreLongest : Type 0
AreLongest = (f : ℕ) (bytes : List ℕ) (prefix : ValidPrefix) (entry : Entry) (len : ℕ) → AreBytes bytes → scan_of f bytes ≡ Prefix prefix → 0 < prefix.end
    → decoded (drop prefix.end bytes) ≡ Whole entry prefix.last len → may_follow entry ≡ true → 2 ^ 32 ≤ prefix.end + size_of entry

-- a file with one entry more
pub record IsGrown (f : ℕ) (entries : List Entry) (entry : Entry) : Type 0 where
  pub bytes : file_bytes f (entries ++ entry ∷ []) ≡ file_bytes f entries ++ encoding entry (last_from 0 26 entries)
  pub last : last_from 0 26 (entries ++ entry ∷ []) ≡ 26 + sizes_of entries
  pub sizes : sizes_of (entries ++ entry ∷ []) ≡ sizes_of entries + size_of entry
  pub entries_are : AreFileEntries (entries ++ entry ∷ [])

-- an entry's encoding whose prev field is the last entry's offset, at a file's end, is one entry more
abbrev pub GrowByAppend : Type 0
GrowByAppend = (f : ℕ) (entries : List Entry) (entry : Entry) → AreFileEntries entries → IsEntry entry → may_follow entry ≡ true
    → 26 + sizes_of entries + size_of entry < 2 ^ 32 → IsGrown f entries entry

-- a disk's files are one list
abbrev pub AreOneList : Type 0
AreOneList = (reads : Files) (a b : List (ℕ × List ℕ)) → AreFiles reads a → AreFiles reads b → a ≡ b

-- the files that a log is hold that log
abbrev pub LogsAreFound : Type 0
LogsAreFound = (reads : Files) (held : List (ℕ × List ℕ)) (log : Log) → IsLog log → AreFiles reads held → ((f : ℕ) → reads f ≡ files_of_log log f) → log_in held ≡ log
