-- The entry that is handed over by its parts.
use Rattle.log_entry.specs.declared.entry.Entry.{Entry}
use Rattle.log_entry.specs.declared.entry.Entry.TheVariants.{Put, Delete}
use Rattle.log_entry.specs.declared.entry_ref.EntryRef.{EntryRef}
use Rattle.log_entry.specs.declared.entry_ref.EntryRef.TheVariants.{Whole, Put as PutOf, Delete as DeleteOf}

-- the entry that is to be written
abbrev pub entry_by : EntryRef → Entry
entry_by (Whole entry) = entry.now
entry_by (PutOf txn db key dup value) = Put txn db (record { key = key.now; dup = dup.now }) value.now
entry_by (DeleteOf txn db key dup) = Delete txn db (record { key = key.now; dup = dup.now })
