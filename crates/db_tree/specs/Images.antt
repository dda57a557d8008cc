-- What images in a log show of names. The images are named by their LSNs.
use Rattle.std.specs.Prelude.{◌≡◌, ◌==◌, ℕ, zero, suc, List, [], ◌∷◌, Option, Some, None, option_and_then, find, if◌then◌else◌}
use Rattle.std.specs.Ordering.{is_eq, is_le}
use Rattle.std.specs.Map.{lookup}
use Rattle.je_order.specs.Order.{name_cmp}
use Rattle.je_order.specs.declared.name.Name.{Name}
use Rattle.log_entry.specs.declared.child_slot.ChildSlot.{ChildSlot}
use Rattle.log_entry.specs.declared.record_slot.RecordSlot.{RecordSlot}
use Rattle.log_entry.specs.declared.entry.Entry.{Entry}
use Rattle.log_entry.specs.declared.entry.Entry.TheVariants.{In, Bin}
use Rattle.node_core.specs.declared.slot.Version.{Version}
use Rattle.node_core.specs.declared.slot.Version.TheVariants.{There, Deleted, Unset}

-- a log's entries with their LSNs
abbrev pub Placed : Type 0
Placed = List (ℕ × Entry)

-- the entry that an LSN names
abbrev pub entry_at : Placed → ℕ → Option Entry
entry_at es at = lookup (λ lsn. lsn == at) es

-- the LSN of a record, by the slot of its name
abbrev pub lsn_in : Option RecordSlot → Option ℕ
lsn_in None = None
lsn_in (Some slot) = slot.lsn

-- what the image of a BIN shows for a name; of another entry nothing
abbrev pub record_in : Option Entry → Name → Option ℕ
record_in (Some (Bin db node slots)) x = lsn_in (find (λ slot. is_eq (name_cmp x slot.name)) slots)
record_in entry x = None

-- what the slot of a BIN's image says of its name: where a record stands, or that it was deleted; a name without a slot has nothing committed
abbrev pub version_of_slot : Option ℕ → Version
version_of_slot None = Deleted
version_of_slot (Some lsn) = There lsn

abbrev pub slot_version : Option RecordSlot → Version
slot_version None = Unset
slot_version (Some slot) = version_of_slot slot.lsn

-- what the image of a BIN says of a name; of another entry nothing
abbrev pub version_imaged : Option Entry → Name → Version
version_imaged (Some (Bin db node slots)) x = slot_version (find (λ slot. is_eq (name_cmp x slot.name)) slots)
version_imaged entry x = Unset

-- the image of the child over a name: that of the last slot up to it, which is the first slot where no other is
abbrev pub child_behind : Name → ℕ → List ChildSlot → ℕ
child_behind x child [] = child
child_behind x child (slot ∷ slots) = if is_le (name_cmp slot.name x) then child_behind x slot.child slots else child

abbrev pub child_over : Name → List ChildSlot → Option ℕ
child_over x [] = None
child_over x (slot ∷ slots) = Some (child_behind x slot.child slots)

-- the child's image that the image of an IN shows for a name; of another entry none
abbrev pub child_in : Option Entry → Name → Option ℕ
child_in (Some (In db node level slots)) x = child_over x slots
child_in entry x = None

-- what the image at an LSN, of a node of a level, shows for a name: the LSN of a record's last committed change
abbrev pub shows : Placed → ℕ → ℕ → Name → Option ℕ
shows es zero at x = record_in (entry_at es at) x
shows es (suc level) at x = option_and_then (λ child. shows es level child x) (child_in (entry_at es at) x)

-- a node without an image shows nothing
abbrev pub shown : Placed → ℕ → Option ℕ → Name → Option ℕ
shown es level None x = None
shown es level (Some at) x = shows es level at x

-- what a BIN's last image says of a name; a BIN without an image says nothing
abbrev pub last_says : Placed → Option ℕ → Name → Version
last_says es None x = Unset
last_says es (Some at) x = version_imaged (entry_at es at) x

-- the entry is an image of a BIN
abbrev pub IsBin : Option Entry → Type 0
IsBin (Some (Bin db node slots)) = Unit {0}
IsBin entry = ⊥

-- the images that are read for a name, from the one at an LSN down, are there
abbrev pub IsRead : Placed → ℕ → ℕ → Name → Type 0
IsRead es zero at x = IsBin (entry_at es at)
IsRead es (suc level) at x = (child : ℕ) × (child_in (entry_at es at) x ≡ Some child) × IsRead es level child x
