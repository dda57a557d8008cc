-- The entries that show a node, and the node that entries show.
use Rattle.std.specs.Prelude.{ℕ, ◌==◌, ◌&&◌, nat_le, if◌then◌else◌, List, Option, Some, None, option_map, length, map}
use Rattle.std.specs.List.{flat_map}
use Rattle.log_entry.specs.declared.record_slot.RecordSlot.{RecordSlot}
use Rattle.log_entry.specs.declared.entry.Entry.{Entry}
use Rattle.log_entry.specs.declared.entry.Entry.TheVariants.{In, Bin, BinDelta}
use Rattle.node_core.specs.declared.node.Node.{Node}
use Rattle.node_core.specs.Sorted.{put_all}
use Rattle.node_core.specs.Changes.{committed, changed, set_now, slots_in}
use Rattle.node_log.specs.Slots.{record_of, child_of, slot_of_record, slot_of_child, fresh}

-- ---- as it is written

-- the entry that shows a node whole
abbrev pub entry_of : Node → Entry
entry_of n =
    if n.level == 1 then Bin n.db n.number (map record_of (slots_in (committed n.slots)))
    else In n.db n.number n.level (flat_map child_of (slots_in (committed n.slots)))

-- the entry that shows what was set in a BIN since its full image
abbrev pub delta_of : Node → Option Entry
delta_of n = if n.level == 1 then option_map (λ full. BinDelta n.db n.number full (map record_of (slots_in (changed n.slots)))) n.full else None

-- ---- as it is read

-- the node that a BIN's full image shows
abbrev pub bin_of : ℕ → ℕ → List RecordSlot → Node
bin_of db number records = record { db = db; number = number; level = 1; full = None; slots = map (λ r. fresh (slot_of_record r)) records }

-- the node that an entry shows whole
abbrev pub node_of : Entry → Option Node
node_of (In db number level children) = Some (record { db = db; number = number; level = level; full = None; slots = map (λ c. fresh (slot_of_child c)) children })
node_of (Bin db number records) = Some (bin_of db number records)
node_of entry = None

-- a node with what a delta to the full image at an LSN shows, if it has room for that
abbrev pub with_delta : Node → ℕ → List RecordSlot → Option Node
with_delta n full records =
    if nat_le (length (put_all (map (λ r. set_now (slot_of_record r)) records) n.slots)) 128
    then Some (record { db = n.db; number = n.number; level = n.level; full = Some full; slots = put_all (map (λ r. set_now (slot_of_record r)) records) n.slots })
    else None

-- a BIN's node with a delta, if that is one of the same database and node
abbrev pub with_entry : Node → Entry → Option Node
with_entry n (BinDelta db number full records) = if db == n.db && number == n.number then with_delta n full records else None
with_entry n entry = None

-- the node that an entry and a delta show
abbrev pub node_with : Entry → Entry → Option Node
node_with (Bin db number records) delta = with_entry (bin_of db number records) delta
node_with entry delta = None

abbrev pub node_from : Entry → Option Entry → Option Node
node_from full None = node_of full
node_from full (Some delta) = node_with full delta
