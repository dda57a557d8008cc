-- What an entry's body is as bytes: each field as it is written, and as it is read.
use Rattle.std.specs.Prelude.{ℕ, ◌+◌, ◌<◌, ◌≤◌, ◌^◌, ◌==◌, nat_le, nat_lt, if◌then◌else◌, List, ◌∷◌, ◌++◌, length, Option, Some, None, IfSome}
use Rattle.std.specs.Int.{w16, w32, w64, to_be_bytes}
use Rattle.std.specs.List.{flat_map}
use Rattle.je_bytes.specs.Reading.{byte_in, number_in}
use Rattle.je_order.specs.declared.name.Name.{Name}
use Rattle.log_entry.specs.declared.entry.Entry.{Entry}
use Rattle.log_entry.specs.declared.entry.Entry.TheVariants.{FileHeader, Put, Delete, Migrated, Commit, In, Bin, BinDelta, CkptStart, CkptEnd, FileSummary}
use Rattle.je_order.specs.Options.{◌>>=◌}
use Rattle.log_entry.specs.Fields.{IsName, name_bytes, name_in, optional_bytes, optional_in}
use Rattle.log_entry.specs.Items.{AreRising, counted_bytes, counted_in, IsChildSlot, child_before, child_slot_bytes, child_slot_in, IsRecordSlot, record_before, record_slot_bytes, record_slot_in, IsRoot, root_before, root_bytes, root_in, IsFileUsage, file_before, file_usage_bytes, file_usage_in}

-- ---- what an entry may hold

-- numbers within their widths, names within their limits, values of at most 65,536 bytes, and lists in order and within their limits
abbrev pub IsEntry : Entry → Type 0
IsEntry (FileHeader version file) = (version < 2 ^ 32) × (file < 2 ^ 32)
IsEntry (Put txn db name value) = (txn.0 < 2 ^ 64) × (db < 2 ^ 32) × IsName name × (length value ≤ 65536)
IsEntry (Delete txn db name) = (txn.0 < 2 ^ 64) × (db < 2 ^ 32) × IsName name
IsEntry (Migrated db name value) = (db < 2 ^ 32) × IsName name × (length value ≤ 65536)
IsEntry (Commit txn) = txn.0 < 2 ^ 64
IsEntry (In db node level slots) = (db < 2 ^ 32) × (node < 2 ^ 64) × (2 ≤ level) × (level ≤ 64) × (0 < length slots) × AreRising IsChildSlot child_before 128 slots
IsEntry (Bin db node slots) = (db < 2 ^ 32) × (node < 2 ^ 64) × AreRising IsRecordSlot record_before 128 slots
IsEntry (BinDelta db node full slots) = (db < 2 ^ 32) × (node < 2 ^ 64) × (full < 2 ^ 64) × AreRising IsRecordSlot record_before 128 slots
IsEntry (CkptStart number) = number < 2 ^ 64
IsEntry (CkptEnd number start redo last_txn last_node last_db summary roots) =
    (number < 2 ^ 64) × (start < 2 ^ 64) × (redo < 2 ^ 64) × (last_txn.0 < 2 ^ 64) × (last_node < 2 ^ 64) × (last_db < 2 ^ 32)
    × IfSome summary (λ lsn. (0 < lsn) × (lsn < 2 ^ 64)) × AreRising IsRoot root_before 65535 roots
IsEntry (FileSummary files) = AreRising IsFileUsage file_before 1000000 files

-- ---- as it is written

-- the number of the entry's kind
abbrev pub kind_of : Entry → ℕ
kind_of (FileHeader version file) = 1
kind_of (Put txn db name value) = 2
kind_of (Delete txn db name) = 3
kind_of (Migrated db name value) = 4
kind_of (Commit txn) = 5
kind_of (In db node level slots) = 7
kind_of (Bin db node slots) = 8
kind_of (BinDelta db node full slots) = 9
kind_of (CkptStart number) = 10
kind_of (CkptEnd number start redo last_txn last_node last_db summary roots) = 11
kind_of (FileSummary files) = 12

-- the number that begins a file's header
abbrev pub magic : ℕ
magic = 0x4a454c47

-- the body: the fields of the kind, one after the other; a value takes the rest
abbrev pub body_of : Entry → List ℕ
body_of (FileHeader version file) = to_be_bytes w32 magic ++ (to_be_bytes w32 version ++ to_be_bytes w32 file)
body_of (Put txn db name value) = to_be_bytes w64 txn.0 ++ (to_be_bytes w32 db ++ (name_bytes name ++ value))
body_of (Delete txn db name) = to_be_bytes w64 txn.0 ++ (to_be_bytes w32 db ++ name_bytes name)
body_of (Migrated db name value) = to_be_bytes w32 db ++ (name_bytes name ++ value)
body_of (Commit txn) = to_be_bytes w64 txn.0
body_of (In db node level slots) = to_be_bytes w32 db ++ (to_be_bytes w64 node ++ (level ∷ counted_bytes w16 child_slot_bytes slots))
body_of (Bin db node slots) = to_be_bytes w32 db ++ (to_be_bytes w64 node ++ counted_bytes w16 record_slot_bytes slots)
body_of (BinDelta db node full slots) = to_be_bytes w32 db ++ (to_be_bytes w64 node ++ (to_be_bytes w64 full ++ counted_bytes w16 record_slot_bytes slots))
body_of (CkptStart number) = to_be_bytes w64 number
body_of (CkptEnd number start redo last_txn last_node last_db summary roots) =
    to_be_bytes w64 number ++ (to_be_bytes w64 start ++ (to_be_bytes w64 redo ++ (to_be_bytes w64 last_txn.0 ++ (to_be_bytes w64 last_node ++ (to_be_bytes w32 last_db
    ++ (optional_bytes summary ++ counted_bytes w16 root_bytes roots))))))
body_of (FileSummary files) = counted_bytes w32 file_usage_bytes files

-- how many bytes the body has
abbrev pub body_size_of : Entry → ℕ
body_size_of (FileHeader version file) = 12
body_size_of (Put txn db name value) = 16 + length name.key + length name.dup + length value
body_size_of (Delete txn db name) = 16 + length name.key + length name.dup
body_size_of (Migrated db name value) = 8 + length name.key + length name.dup + length value
body_size_of (Commit txn) = 8
body_size_of (In db node level slots) = 15 + length (flat_map child_slot_bytes slots)
body_size_of (Bin db node slots) = 14 + length (flat_map record_slot_bytes slots)
body_size_of (BinDelta db node full slots) = 22 + length (flat_map record_slot_bytes slots)
body_size_of (CkptStart number) = 8
body_size_of (CkptEnd number start redo last_txn last_node last_db summary roots) = 54 + length (flat_map root_bytes roots)
body_size_of (FileSummary files) = 4 + length (flat_map file_usage_bytes files)

-- ---- as it is read

-- what was read, where nothing follows it
abbrev pub whole : {A : Type 0} → A × List ℕ → Option A
whole read = if length read.1 == 0 then Some read.0 else None

-- what is read next, where nothing follows it
abbrev pub alone : {A : Type 0} → Option (A × List ℕ) → Option A
alone next = next >>= whole

-- the body of a file's header
unfoldable pub file_header_in : List ℕ → Option Entry
file_header_in bytes = do
  first ← number_in w32 bytes
  version ← number_in w32 first.1
  file ← number_in w32 version.1
  if first.0 == magic then whole (FileHeader version.0 file.0, file.1) else None

-- a record's name, and its value, which takes the rest
unfoldable pub record_in : List ℕ → Option (Name × List ℕ)
record_in bytes = do
  name ← name_in bytes
  if nat_le (length name.1) 65536 then Some (name.0, name.1) else None

-- the body of a put
unfoldable pub put_in : List ℕ → Option Entry
put_in bytes = do
  txn ← number_in w64 bytes
  db ← number_in w32 txn.1
  name ← name_in db.1
  if nat_le (length name.1) 65536 then Some (Put (record { 0 = txn.0 }) db.0 name.0 name.1) else None

-- the body of a delete
unfoldable pub delete_in : List ℕ → Option Entry
delete_in bytes = do
  txn ← number_in w64 bytes
  db ← number_in w32 txn.1
  name ← name_in db.1
  whole (Delete (record { 0 = txn.0 }) db.0 name.0, name.1)

-- the body of a migrated record
unfoldable pub migrated_in : List ℕ → Option Entry
migrated_in bytes = do
  db ← number_in w32 bytes
  name ← name_in db.1
  if nat_le (length name.1) 65536 then Some (Migrated db.0 name.0 name.1) else None

-- the body of a commit
unfoldable pub commit_in : List ℕ → Option Entry
commit_in bytes = do
  txn ← number_in w64 bytes
  whole (Commit (record { 0 = txn.0 }), txn.1)

-- the body of an IN
unfoldable pub internal_in : List ℕ → Option Entry
internal_in bytes = do
  db ← number_in w32 bytes
  node ← number_in w64 db.1
  level ← byte_in node.1
  slots ← counted_in w16 child_slot_in child_before 128 level.1
  if nat_le 2 level.0 then (if nat_le level.0 64 then (if nat_lt 0 (length slots.0) then whole (In db.0 node.0 level.0 slots.0, slots.1) else None) else None) else None

-- the body of a BIN
unfoldable pub bin_in : List ℕ → Option Entry
bin_in bytes = do
  db ← number_in w32 bytes
  node ← number_in w64 db.1
  slots ← counted_in w16 record_slot_in record_before 128 node.1
  whole (Bin db.0 node.0 slots.0, slots.1)

-- the body of a delta
unfoldable pub delta_in : List ℕ → Option Entry
delta_in bytes = do
  db ← number_in w32 bytes
  node ← number_in w64 db.1
  full ← number_in w64 node.1
  slots ← counted_in w16 record_slot_in record_before 128 full.1
  whole (BinDelta db.0 node.0 full.0 slots.0, slots.1)

-- the body of a checkpoint's beginning
unfoldable pub ckpt_start_in : List ℕ → Option Entry
ckpt_start_in bytes = do
  number ← number_in w64 bytes
  whole (CkptStart number.0, number.1)

-- the body of a checkpoint's end
unfoldable pub ckpt_end_in : List ℕ → Option Entry
ckpt_end_in bytes = do
  number ← number_in w64 bytes
  start ← number_in w64 number.1
  redo ← number_in w64 start.1
  last_txn ← number_in w64 redo.1
  last_node ← number_in w64 last_txn.1
  last_db ← number_in w32 last_node.1
  summary ← optional_in last_db.1
  roots ← counted_in w16 root_in root_before 65535 summary.1
  whole (CkptEnd number.0 start.0 redo.0 (record { 0 = last_txn.0 }) last_node.0 last_db.0 summary.0 roots.0, roots.1)

-- the body of a summary
unfoldable pub file_summary_in : List ℕ → Option Entry
file_summary_in bytes = do
  files ← counted_in w32 file_usage_in file_before 1000000 bytes
  whole (FileSummary files.0, files.1)

-- the entry of a kind with these bytes as its body, all of them
unfoldable pub entry_in : ℕ → List ℕ → Option Entry
entry_in kind bytes =
    if kind == 1 then file_header_in bytes else
    if kind == 2 then put_in bytes else
    if kind == 3 then delete_in bytes else
    if kind == 4 then migrated_in bytes else
    if kind == 5 then commit_in bytes else
    if kind == 7 then internal_in bytes else
    if kind == 8 then bin_in bytes else
    if kind == 9 then delta_in bytes else
    if kind == 10 then ckpt_start_in bytes else
    if kind == 11 then ckpt_end_in bytes else
    if kind == 12 then file_summary_in bytes else None
