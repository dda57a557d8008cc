-- The records with their owners and waits.
use Rattle.std.specs.Prelude.{Bool, List, []}
use Rattle.std.specs.declared.cmp.Ordering.{Ordering}
use Rattle.std.specs.Ordering.{is_eq}
use Rattle.std.specs.Map.{lookup}
use Rattle.std.specs.Option.{unwrap_or}
use Rattle.lock_table.specs.declared.lock.Lock.{Lock}
use Rattle.lock_table.specs.declared.record_id.RecordId.{RecordId}
use Rattle.lock_table.specs.contracts.record_id.RecordIdOrd.TheImpl.{ghosts}

-- the order of records: by database, then by name, and the end last
abbrev pub record_cmp : RecordId → RecordId → Ordering
record_cmp = ghosts.cmp

-- two names of one record
abbrev pub is_record : RecordId → RecordId → Bool
is_record r s = is_eq (record_cmp r s)

-- the owners and the waits of a record: none where the list does not have it
abbrev pub queue_at : RecordId → List (RecordId × (List Lock × List Lock)) → List Lock × List Lock
queue_at r records = unwrap_or (lookup (is_record r) records) ([], [])
