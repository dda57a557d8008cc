-- The lines that are printed of a log.
use Rattle.std.specs.Prelude.{ℕ, ◌+◌, ◌*◌, ◌^◌, ◌==◌, ◌∷◌, ◌++◌, [], codes, decimal, length, nat_lt, false, List, Option, Some, None, if◌then◌else◌}
use Rattle.std.specs.List.{flat_map}
use Rattle.std.specs.Fmt.{digits}
use Rattle.je_order.specs.declared.txn_id.TxnId.{TxnId}
use Rattle.log_entry.specs.declared.entry.Entry.{Entry}
use Rattle.log_entry.specs.declared.entry.Entry.TheVariants.{FileHeader, Put, Delete, Migrated, Commit, In, Bin, BinDelta, CkptStart, CkptEnd, FileSummary}
use Rattle.log_entry.specs.Encoding.{size_of}
use Rattle.log_file.specs.declared.file_scan.FileScan.{FileScan}
use Rattle.log_file.specs.declared.file_scan.FileScan.TheVariants.{Prefix}
use Rattle.log_file.specs.declared.valid_prefix.ValidPrefix.{ValidPrefix}
use Rattle.log_file.specs.Placed.{lsn_at}
use Rattle.log_file.specs.Scan.{scan_of}
use Rattle.text_out.specs.Lsn.{lsn_text}
use Rattle.log_printer.specs.declared.entry_kind.EntryKind.{EntryKind}
use Rattle.log_printer.specs.declared.entry_kind.EntryKind.TheVariants.{FileHeader as FileHeaderKind, Put as PutKind, Delete as DeleteKind, Migrated as MigratedKind, Commit as CommitKind, In as InKind, Bin as BinKind, BinDelta as BinDeltaKind, CkptStart as CkptStartKind, CkptEnd as CkptEndKind, FileSummary as FileSummaryKind}
use Rattle.log_printer.specs.declared.file_lines.FileLines.{FileLines}
use Rattle.log_printer.specs.declared.log_line.LogLine.{LogLine}

-- the kind of an entry
abbrev pub kind_of_entry : Entry → EntryKind
kind_of_entry (FileHeader version file) = FileHeaderKind
kind_of_entry (Put txn db name value) = PutKind
kind_of_entry (Delete txn db name) = DeleteKind
kind_of_entry (Migrated db name value) = MigratedKind
kind_of_entry (Commit txn) = CommitKind
kind_of_entry (In db node level slots) = InKind
kind_of_entry (Bin db node slots) = BinKind
kind_of_entry (BinDelta db node full slots) = BinDeltaKind
kind_of_entry (CkptStart number) = CkptStartKind
kind_of_entry (CkptEnd number start redo last_txn last_node last_db summary roots) = CkptEndKind
kind_of_entry (FileSummary files) = FileSummaryKind

-- the transaction that made an entry
abbrev pub txn_of_entry : Entry → Option TxnId
txn_of_entry (Put txn db name value) = Some txn
txn_of_entry (Delete txn db name) = Some txn
txn_of_entry (Commit txn) = Some txn
txn_of_entry entry = None

-- the database that an entry is of
abbrev pub db_of_entry : Entry → Option ℕ
db_of_entry (Put txn db name value) = Some db
db_of_entry (Delete txn db name) = Some db
db_of_entry (Migrated db name value) = Some db
db_of_entry (In db node level slots) = Some db
db_of_entry (Bin db node slots) = Some db
db_of_entry (BinDelta db node full slots) = Some db
db_of_entry entry = None

-- the line of an entry at an offset of a file, with this prev field
abbrev pub line_of_entry : ℕ → ℕ → ℕ → Entry → LogLine
line_of_entry f at prev entry = record {
  at = f * 2 ^ 32 + at;
  kind = kind_of_entry entry;
  size = size_of entry;
  prev = prev;
  txn = txn_of_entry entry;
  db = db_of_entry entry;
}

-- the line of a file's header
abbrev pub header_line : ℕ → LogLine
header_line f = line_of_entry f 0 0 (FileHeader 1 f)

-- the lines of entries one after another from an offset, the first with this prev field, each later one with the offset of the one before
abbrev pub lines_of_entries : ℕ → ℕ → ℕ → List Entry → List LogLine
lines_of_entries f at prev [] = []
lines_of_entries f at prev (entry ∷ entries) = line_of_entry f at prev entry ∷ lines_of_entries f (at + size_of entry) at entries

-- the lines of a file's valid prefix: the header's and the entries'; none without a whole header
abbrev pub lines_of_prefix : ℕ → ValidPrefix → List LogLine
lines_of_prefix f prefix = if prefix.end == 0 then [] else header_line f ∷ lines_of_entries f 26 0 prefix.entries

-- where the torn tail of file f begins, which has so many bytes and whose valid prefix ends here
abbrev pub torn_at : ℕ → ℕ → ℕ → Option ℕ
torn_at f end len = if nat_lt end len then Some (lsn_at f end) else None

-- ---- texts

-- the word that names a kind
abbrev pub kind_word : EntryKind → List ℕ
kind_word FileHeaderKind = codes "FileHeader"
kind_word PutKind = codes "Put"
kind_word DeleteKind = codes "Delete"
kind_word MigratedKind = codes "Migrated"
kind_word CommitKind = codes "Commit"
kind_word InKind = codes "IN"
kind_word BinKind = codes "BIN"
kind_word BinDeltaKind = codes "BINDelta"
kind_word CkptStartKind = codes "CkptStart"
kind_word CkptEndKind = codes "CkptEnd"
kind_word FileSummaryKind = codes "FileSummary"

-- the part of a line that names the transaction, if the entry is one's
abbrev pub line_txn : Option TxnId → List ℕ
line_txn (Some txn) = codes " txn " ++ decimal txn.0
line_txn None = []

-- the part of a line that names the database, if the entry is of one
abbrev pub line_db : Option ℕ → List ℕ
line_db (Some db) = codes " db " ++ decimal db
line_db None = []

-- the text of a line: the place, the kind, the size and the prev field, and whose the entry is
abbrev pub log_line_text : LogLine → List ℕ
log_line_text line =
    lsn_text line.at ++ codes " " ++ kind_word line.kind ++ codes " size " ++ decimal line.size ++ codes " prev 0x" ++ digits 16 false line.prev
    ++ line_txn line.txn ++ line_db line.db ++ codes "\n"

-- the line of a torn tail that begins there
abbrev pub torn_text : ℕ → List ℕ
torn_text at = codes "torn " ++ lsn_text at ++ codes "\n"

-- that line, if there is a torn tail
abbrev pub torn_line : Option ℕ → List ℕ
torn_line (Some at) = torn_text at
torn_line None = []

-- what is printed of a file
abbrev pub lines_text : FileLines → List ℕ
lines_text file = flat_map log_line_text file.lines.items ++ torn_line file.torn

-- the text of a file of so many bytes with this valid prefix
abbrev pub prefix_text : ℕ → ℕ → ValidPrefix → List ℕ
prefix_text f len prefix = flat_map log_line_text (lines_of_prefix f prefix) ++ torn_line (torn_at f prefix.end len)

-- the text of file f, which has so many bytes; none where it has no valid prefix
abbrev pub scanned_text : ℕ → ℕ → FileScan → List ℕ
scanned_text f len (Prefix prefix) = prefix_text f len prefix
scanned_text f len found = []

-- the text of a log, file by file
abbrev pub log_text : List (ℕ × List ℕ) → List ℕ
log_text held = flat_map (λ file. scanned_text file.0 (length file.1) (scan_of file.0 file.1)) held
