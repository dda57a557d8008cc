-- Lists within entries' bodies: their items, as they are written and read, and in which order they stand.
use Rattle.std.specs.Prelude.{◌≡◌, ℕ, zero, suc, ◌<◌, ◌≤◌, ◌^◌, ◌&&◌, nat_lt, nat_le, if◌then◌else◌, Bool, true, List, [], ◌∷◌, ◌++◌, length, Option, Some, None, IfSome}
use Rattle.std.specs.Int.{Width, w32, w64, to_be_bytes}
use Rattle.std.specs.List.{AllByRecursion, flat_map}
use Rattle.std.specs.Ordering.{is_lt}
use Rattle.je_order.specs.Order.{name_cmp}
use Rattle.je_bytes.specs.Reading.{number_in}
use Rattle.log_entry.specs.declared.child_slot.ChildSlot.{ChildSlot}
use Rattle.log_entry.specs.declared.record_slot.RecordSlot.{RecordSlot}
use Rattle.log_entry.specs.declared.root.Root.{Root}
use Rattle.log_entry.specs.declared.file_usage.FileUsage.{FileUsage}
use Rattle.je_order.specs.Options.{◌>>=◌}
use Rattle.log_entry.specs.Fields.{IsName, name_bytes, name_in, version_bytes, version_in}

-- ---- lists

-- each item comes before the next one, and this one before the first
abbrev pub rises_from : {A : Type 0} → (A → A → Bool) → A → List A → Bool
rises_from before last [] = true
rises_from before last (item ∷ items) = before last item && rises_from before item items

-- each item comes before the next one
abbrev pub rises : {A : Type 0} → (A → A → Bool) → List A → Bool
rises before [] = true
rises before (item ∷ items) = rises_from before item items

-- at most so many items, each of which is one, and each before the next one
pub record AreRising {A : Type 0} (IsItem : A → Type 0) (before : A → A → Bool) (most : ℕ) (items : List A) : Type 0 where
  pub each : AllByRecursion IsItem items
  pub few : length items ≤ most
  pub rise : rises before items ≡ true

-- so many items, one after another, and the bytes after them
unfoldable pub items_in : {A : Type 0} → (List ℕ → Option (A × List ℕ)) → ℕ → List ℕ → Option (List A × List ℕ)
items_in item_in zero bytes = Some ([], bytes)
items_in item_in (suc count) bytes = do
  item ← item_in bytes
  items ← items_in item_in count item.1
  Some (item.0 ∷ items.0, items.1)

-- so many items, but no more than allowed, each of them before the next one
unfoldable pub rising_in : {A : Type 0} → (List ℕ → Option (A × List ℕ)) → (A → A → Bool) → ℕ → ℕ → List ℕ → Option (List A × List ℕ)
rising_in item_in before most count bytes =
    if nat_le count most then (items_in item_in count bytes >>= λ items. if rises before items.0 then Some items else None) else None

-- a list: how many items it has, in a number of this width, and the items
abbrev pub counted_bytes : {A : Type 0} → Width → (A → List ℕ) → List A → List ℕ
counted_bytes w item_bytes items = to_be_bytes w (length items) ++ flat_map item_bytes items

-- a list as it is read, with the bytes behind it: at most so many items, each before the next
unfoldable pub counted_in : {A : Type 0} → Width → (List ℕ → Option (A × List ℕ)) → (A → A → Bool) → ℕ → List ℕ → Option (List A × List ℕ)
counted_in w item_in before most bytes = do
  count ← number_in w bytes
  rising_in item_in before most count.0 count.1

-- ---- slots of an IN

abbrev pub IsChildSlot : ChildSlot → Type 0
IsChildSlot slot = IsName slot.name × (slot.child < 2 ^ 64)

-- the slot's name comes before the other's
abbrev pub child_before : ChildSlot → ChildSlot → Bool
child_before a b = is_lt (name_cmp a.name b.name)

-- a child's slot as it is written: its name and the LSN of its image
abbrev pub child_slot_bytes : ChildSlot → List ℕ
child_slot_bytes slot = name_bytes slot.name ++ to_be_bytes w64 slot.child

-- a child's slot as it is read, with the bytes behind it
unfoldable pub child_slot_in : List ℕ → Option (ChildSlot × List ℕ)
child_slot_in bytes = do
  name ← name_in bytes
  child ← number_in w64 name.1
  Some (record { name = name.0; child = child.0 }, child.1)

-- ---- slots of a BIN

abbrev pub IsRecordSlot : RecordSlot → Type 0
IsRecordSlot slot = IsName slot.name × IfSome slot.lsn (λ lsn. lsn < 2 ^ 64)

-- the slot's name comes before the other's
abbrev pub record_before : RecordSlot → RecordSlot → Bool
record_before a b = is_lt (name_cmp a.name b.name)

-- a record's slot as it is written: its name and its last change
abbrev pub record_slot_bytes : RecordSlot → List ℕ
record_slot_bytes slot = name_bytes slot.name ++ version_bytes slot.lsn

-- a record's slot as it is read, with the bytes behind it
unfoldable pub record_slot_in : List ℕ → Option (RecordSlot × List ℕ)
record_slot_in bytes = do
  name ← name_in bytes
  version ← version_in name.1
  Some (record { name = name.0; lsn = version.0 }, version.1)

-- ---- roots

abbrev pub IsRoot : Root → Type 0
IsRoot root = (root.db < 2 ^ 32) × (root.image < 2 ^ 64)

-- the root's database has the lesser number
abbrev pub root_before : Root → Root → Bool
root_before a b = nat_lt a.db b.db

-- a root as it is written: its database's number and the LSN of its image
abbrev pub root_bytes : Root → List ℕ
root_bytes root = to_be_bytes w32 root.db ++ to_be_bytes w64 root.image

-- a root as it is read, with the bytes behind it
unfoldable pub root_in : List ℕ → Option (Root × List ℕ)
root_in bytes = do
  db ← number_in w32 bytes
  image ← number_in w64 db.1
  Some (record { db = db.0; image = image.0 }, image.1)

-- ---- files and what they hold

abbrev pub IsFileUsage : FileUsage → Type 0
IsFileUsage usage = (usage.file.0 < 2 ^ 32) × (usage.total < 2 ^ 64) × (usage.live < 2 ^ 64)

-- the file has the lesser number
abbrev pub file_before : FileUsage → FileUsage → Bool
file_before a b = nat_lt a.file.0 b.file.0

-- a file's use as it is written: its number, all its bytes and its live bytes
abbrev pub file_usage_bytes : FileUsage → List ℕ
file_usage_bytes usage = to_be_bytes w32 usage.file.0 ++ (to_be_bytes w64 usage.total ++ to_be_bytes w64 usage.live)

-- a file's use as it is read, with the bytes behind it
unfoldable pub file_usage_in : List ℕ → Option (FileUsage × List ℕ)
file_usage_in bytes = do
  file ← number_in w32 bytes
  total ← number_in w64 file.1
  live ← number_in w64 total.1
  Some (record { file = record { 0 = file.0 }; total = total.0; live = live.0 }, live.1)
