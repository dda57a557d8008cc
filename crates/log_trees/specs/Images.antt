-- What the log shows of a node: the slots of the image at an LSN. What an entry names counts only at a lower LSN.
use Rattle.std.specs.Prelude.{ℕ, ◌==◌, nat_lt, if◌then◌else◌, List, [], ◌∷◌, Option, None, Some, filter}
use Rattle.std.specs.Option.{option_and_then}
use Rattle.std.specs.List.{flat_map}
use Rattle.je_order.specs.declared.name.Name.{Name}
use Rattle.log_entry.specs.declared.entry.Entry.{Entry}
use Rattle.log_entry.specs.declared.entry.Entry.TheVariants.{BinDelta}
use Rattle.node_core.specs.declared.slot.Marked.{Marked}
use Rattle.node_core.specs.declared.node.Node.{Node}
use Rattle.node_log.specs.Slots.{lsn_in}
use Rattle.node_log.specs.Images.{node_of, node_with}
use Rattle.log_trees.specs.Placed.{Placed, entry_at}

-- a name and the LSN that a slot has for it
abbrev pub NamedLsn : Type 0
NamedLsn = Name × ℕ

-- a slot's name with its LSN; none where the record was deleted
abbrev pub named : Name → Option ℕ → List NamedLsn
named name (Some lsn) = (name, lsn) ∷ []
named name None = []

-- what a slot shows: its name with the LSN, nothing where its record was deleted
abbrev pub slot_shown : Marked → List NamedLsn
slot_shown m = named m.slot.name (lsn_in m.slot.version)

-- the slots of a node that have an LSN
abbrev pub slots_shown : Node → List NamedLsn
slots_shown n = flat_map slot_shown n.slots

-- the node that an entry at an LSN shows; a delta shows it with its full image
abbrev pub node_in : List Placed → ℕ → Entry → Option Node
node_in es at (BinDelta db number full slots) =
    if nat_lt full at then option_and_then (λ base. node_with base (BinDelta db number full slots)) (entry_at es full) else None
node_in es at entry = node_of entry

-- the node that the image at an LSN shows
abbrev pub node_at : List Placed → ℕ → Option Node
node_at es at = option_and_then (node_in es at) (entry_at es at)

-- the slots of a node of this level
abbrev pub slots_of_level : ℕ → Option Node → List NamedLsn
slots_of_level level None = []
slots_of_level level (Some n) = if n.level == level then slots_shown n else []

-- the slots of the image at an LSN, if that shows a node of this level
abbrev pub image : List Placed → ℕ → ℕ → List NamedLsn
image es level at = filter (λ s. nat_lt s.1 at) (slots_of_level level (node_at es at))

-- the level of the node that the image at an LSN shows, 0 where there is none
abbrev pub level_of : Option Node → ℕ
level_of None = 0
level_of (Some n) = n.level

-- the level of the node that the image at an LSN shows
abbrev pub level_at : List Placed → ℕ → ℕ
level_at es at = level_of (node_at es at)
