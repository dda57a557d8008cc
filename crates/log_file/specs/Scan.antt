-- What the bytes of a log file are: its header and the entries behind it, up to where they end.
use Rattle.std.specs.Prelude.{ℕ, ◌+◌, ◌^◌, ◌==◌, ◌&&◌, nat_lt, not, if◌then◌else◌, Bool, true, false, List, [], ◌∷◌, drop}
use Rattle.log_entry.specs.declared.entry.Entry.{Entry}
use Rattle.log_entry.specs.declared.entry.Entry.TheVariants.{FileHeader}
use Rattle.log_entry.specs.declared.decoder.Decoded.{Decoded}
use Rattle.log_entry.specs.declared.decoder.Decoded.TheVariants.{Whole, Torn as NotWhole}
use Rattle.log_entry.specs.Encoding.{size_of}
use Rattle.log_entry.specs.Reading.{decoded}
use Rattle.log_entry.specs.Prefix.{prefix_on, last_from}
use Rattle.log_file.specs.declared.valid_prefix.ValidPrefix.{ValidPrefix}
use Rattle.log_file.specs.declared.file_scan.FileScan.{FileScan}
use Rattle.log_file.specs.declared.file_scan.FileScan.TheVariants.{Prefix, VersionUnknown, Damaged}

-- whether an entry may stand behind a file's header: each but another header
abbrev pub may_follow : Entry → Bool
may_follow (FileHeader version file) = false
may_follow entry = true

-- how many bytes entries take
abbrev pub sizes_of : List Entry → ℕ
sizes_of [] = 0
sizes_of (entry ∷ entries) = size_of entry + sizes_of entries

-- these entries from an offset on, up to one that may not follow a header or that does not end below 2^32
abbrev pub front : ℕ → List Entry → List Entry
front at [] = []
front at (entry ∷ entries) =
    if may_follow entry && nat_lt (at + size_of entry) (2 ^ 32) then entry ∷ front (at + size_of entry) entries else []

-- the entries behind the 26 bytes of a file's header; the first of them has prev field 0, as the header has
abbrev pub entries_behind : List ℕ → List Entry
entries_behind bytes = front 26 (prefix_on 0 26 (drop 26 bytes)).entries

-- a header and these entries: the offset of the last one, and the offset where they end
abbrev pub prefix_with : List Entry → ValidPrefix
prefix_with entries = record { entries = entries; last = last_from 0 26 entries; end = 26 + sizes_of entries }

-- no whole header, and so nothing
abbrev pub no_prefix : ValidPrefix
no_prefix = record { entries = []; last = 0; end = 0 }

-- what the bytes of file f are whose first entry is this one, with this prev field
abbrev pub scan_first : ℕ → List ℕ → ℕ → Entry → FileScan
scan_first f bytes prev (FileHeader version file) =
    if not (prev == 0) then Damaged else
    if not (version == 1) then VersionUnknown version else
    if file == f then Prefix (prefix_with (entries_behind bytes)) else Damaged
scan_first f bytes prev entry = Damaged

-- what the bytes of file f are that begin so
abbrev pub scan_by : ℕ → List ℕ → Decoded → FileScan
scan_by f bytes (NotWhole torn) = Prefix no_prefix
scan_by f bytes (Whole entry prev len) = scan_first f bytes prev entry

-- what the bytes of file f are
abbrev pub scan_of : ℕ → List ℕ → FileScan
scan_of f bytes = scan_by f bytes (decoded bytes)
