-- Files that end in zeros, as a crash leaves them where the disk set room aside behind their bytes.
use Rattle.std.specs.Prelude.{◌≡◌, ◌⊎◌, ◌<◌, ◌^◌, ℕ, List, ◌++◌, slice_index}
use Rattle.je_disk.specs.Moments.{History}
use Rattle.log_entry.specs.declared.entry.Entry.{Entry}
use Rattle.log_entry.specs.declared.decoder.Decoded.TheVariants.{Whole}
use Rattle.log_entry.specs.Reading.{decoded}
use Rattle.log_file.specs.Scan.{scan_of}
use Rattle.log_file.specs.Log.{AreFileEntries, entries_scanned, file_bytes}
use Rattle.log_buffer.specs.Chance.{HasPrefix, ReadSince, WasFound}

-- each of these bytes is 0
abbrev pub AreZeros : List ℕ → Type 0
AreZeros bytes = (i : ℕ) → slice_index bytes i ≡ 0

-- zeros are no entry
abbrev pub ZerosAreTorn : Type 0
ZerosAreTorn = (bytes : List ℕ) (entry : Entry) (prev len : ℕ) → AreZeros bytes → decoded bytes ≡ Whole entry prev len → ⊥

-- a file's header and the first of these entries, and zeros behind them
pub record HasZerosBehind (f : ℕ) (entries : List Entry) (bytes : List ℕ) : Type 0 where
  pub number : f < 2 ^ 32
  pub front : List Entry
  pub more : List Entry
  pub are_first : entries ≡ front ++ more
  pub are_entries : AreFileEntries front
  pub zeros : List ℕ
  pub are_zeros : AreZeros zeros
  pub bytes_are : bytes ≡ file_bytes f front ++ zeros

-- a file in which zeros stand behind the first of the entries that the disk once read there, or in place of all, meets the premise on chance
abbrev pub ZerosAreFound : Type 0
ZerosAreFound = (since : ℕ) (history : History) (k f : ℕ) (read bytes : List ℕ) → ReadSince since history k f read → HasPrefix (f, read)
    → AreZeros bytes ⊎ HasZerosBehind f (entries_scanned (scan_of f read)) bytes → WasFound (ReadSince since history k) f (scan_of f bytes)
