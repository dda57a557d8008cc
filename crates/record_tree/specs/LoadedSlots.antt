-- The slots of an environment's BINs while its log is read again.
use Rattle.std.specs.Prelude.{◌≡◌, ◌==◌, ◌||◌, ◌&&◌, not, ℕ, Bool, true, false, List, Option, None, Some, if◌then◌else◌}
use Rattle.std.specs.List.{list_any}
use Rattle.std.specs.Ordering.{is_eq, is_lt}
use Rattle.je_order.specs.Order.{name_cmp}
use Rattle.je_order.specs.declared.name.Name.{Name}
use Rattle.node_core.specs.declared.slot.Version.{Version}
use Rattle.node_core.specs.declared.slot.Version.TheVariants.{There, Deleted}
use Rattle.node_core.specs.Changes.{is_committed}
use Rattle.node_core.specs.declared.slot.Marked.{Marked}

-- whether a name of a database has a slot that the next image of its BIN shows: that of a record, or of one that was deleted
abbrev pub AllSlots : Type 0
AllSlots = ℕ → Name → Bool

-- whether a slot is that of a record that was deleted
abbrev pub is_deletion : Version → Bool
is_deletion Deleted = true
is_deletion version = false

-- whether slots of a node show of a name that its record was deleted
abbrev pub shows_deletion : List Marked → Name → Bool
shows_deletion slots x = list_any (λ m. is_deletion m.slot.version && is_eq (name_cmp m.slot.name x)) slots

-- whether a name is below a bound; no bound is above all names
abbrev pub is_under : Name → Option Name → Bool
is_under x None = true
is_under x (Some high) = is_lt (name_cmp x high)

-- whether a name lies within the bounds of a node, the lower one included
abbrev pub is_inside : Name → Option Name → Name → Bool
is_inside low high x = not (is_lt (name_cmp x low)) && is_under x high

-- whether slots of a node show of a name within its bounds that its record was deleted
abbrev pub shows_deletion_inside : Name → Option Name → List Marked → Name → Bool
shows_deletion_inside low high slots x = is_inside low high x && shows_deletion slots x

-- names of a database got slots, and each other name has one exactly where it had one
abbrev pub HasMoreSlots : AllSlots → AllSlots → ℕ → (Name → Bool) → Type 0
HasMoreSlots old new db got = (d : ℕ) (x : Name) → new d x ≡ (old d x || ((db == d) && got x))

-- no slot came, and none went
abbrev pub AreSlotsStill : AllSlots → AllSlots → Type 0
AreSlotsStill old new = (d : ℕ) (x : Name) → new d x ≡ old d x

-- ---- what is read of names

-- what is read of a name: what is committed of it, what the last image of its BIN says of it, and since which LSN it is committed
pub record ReadSlot : Type 0 where
  pub version : Version
  pub shown : Version
  pub touched : ℕ

-- of each name of a database that has a slot
abbrev pub AllRead : Type 0
AllRead = ℕ → Name → Option ReadSlot

-- the slot of a record that was logged at an LSN
abbrev pub slot_put : ℕ → ReadSlot
slot_put at = record { version = There at; shown = There at; touched = at }

-- the slot of a record that was deleted, as the image of its BIN at an LSN says
abbrev pub slot_gone : ℕ → ReadSlot
slot_gone at = record { version = Deleted; shown = Deleted; touched = at }

-- whether a name has a slot that the next image of its BIN shows
abbrev pub has_committed_slot : Option ReadSlot → Bool
has_committed_slot None = false
has_committed_slot (Some s) = is_committed s.version

-- of the names of a database that a test finds, each that has no slot got that of a record that was deleted
abbrev pub HasGone : AllRead → AllRead → ℕ → (Name → Bool) → ℕ → Type 0
HasGone old new db gone at = (d : ℕ) (x : Name) → new d x ≡ (if (db == d) && (gone x && not (has_committed_slot (old d x))) then Some (slot_gone at) else old d x)

-- a name of a database got the slot of a record that was logged at an LSN
abbrev pub HasPutSlot : AllRead → AllRead → ℕ → Name → ℕ → Type 0
HasPutSlot old new db name at = (d : ℕ) (x : Name) → new d x ≡ (if (db == d) && is_eq (name_cmp name x) then Some (slot_put at) else old d x)

-- nothing else is read of any name
abbrev pub IsReadStill : AllRead → AllRead → Type 0
IsReadStill old new = (d : ℕ) (x : Name) → new d x ≡ old d x
