-- Fields of entries' bodies that are no plain numbers: as they are written, and as they are read with the bytes after them.
use Rattle.std.specs.Prelude.{ℕ, ◌≤◌, ◌==◌, ◌&&◌, nat_le, if◌then◌else◌, List, ◌∷◌, ◌++◌, length, Option, Some, None}
use Rattle.std.specs.Int.{w16, w64, to_be_bytes}
use Rattle.je_order.specs.Options.{◌>>=◌}
use Rattle.je_order.specs.declared.name.Name.{Name}
use Rattle.je_bytes.specs.Reading.{byte_in, number_in, bytes_in}

-- ---- names

-- a record's name: key and dup of at most 4,096 bytes each
abbrev pub IsName : Name → Type 0
IsName name = (length name.key ≤ 4096) × (length name.dup ≤ 4096)

-- a string of at most 65,535 bytes: its length in two bytes, and the bytes
abbrev pub string : List ℕ → List ℕ
string bytes = to_be_bytes w16 (length bytes) ++ bytes

-- a record's name: its key, and then its dup
abbrev pub name_bytes : Name → List ℕ
name_bytes name = string name.key ++ string name.dup

-- a string of at most 4,096 bytes, and the bytes after it
unfoldable pub string_in : List ℕ → Option (List ℕ × List ℕ)
string_in bytes = do
  len ← number_in w16 bytes
  if nat_le len.0 4096 then bytes_in len.0 len.1 else None

-- a record's name, and the bytes after it
unfoldable pub name_in : List ℕ → Option (Name × List ℕ)
name_in bytes = do
  key ← string_in bytes
  dup ← string_in key.1
  Some (record { key = key.0; dup = dup.0 }, dup.1)

-- ---- LSNs that may be missing

-- a record's last change: 0 and its LSN, or 1 and 0 where the record was deleted
abbrev pub version_bytes : Option ℕ → List ℕ
version_bytes (Some lsn) = 0 ∷ to_be_bytes w64 lsn
version_bytes None = 1 ∷ to_be_bytes w64 0

-- a record's last change as it is read, with the bytes behind it
unfoldable pub version_in : List ℕ → Option (Option ℕ × List ℕ)
version_in bytes = do
  state ← byte_in bytes
  lsn ← number_in w64 state.1
  if state.0 == 0 then Some (Some lsn.0, lsn.1) else (if state.0 == 1 && lsn.0 == 0 then Some (None, lsn.1) else None)

-- an LSN, or 0 for none
abbrev pub optional_bytes : Option ℕ → List ℕ
optional_bytes (Some lsn) = to_be_bytes w64 lsn
optional_bytes None = to_be_bytes w64 0

-- an LSN or none as it is read, with the bytes behind it
unfoldable pub optional_in : List ℕ → Option (Option ℕ × List ℕ)
optional_in bytes = do
  lsn ← number_in w64 bytes
  Some (if lsn.0 == 0 then None else Some lsn.0, lsn.1)
