-- Reading trees: the first corruption in the order of reading, or the nodes and records that were read.
use Rattle.std.specs.Prelude.{ℕ, zero, suc, ◌/◌, ◌^◌, ◌==◌, ◌&&◌, nat_lt, not, if◌then◌else◌, Bool, false, List, [], ◌∷◌, ◌++◌, Option, None, Some, Result, Ok, Err}
use Rattle.std.specs.List.{list_any}
use Rattle.je_order.specs.declared.name.Name.{Name}
use Rattle.log_entry.specs.declared.entry.Entry.{Entry}
use Rattle.log_entry.specs.declared.entry.Entry.TheVariants.{Bin, BinDelta}
use Rattle.log_entry.specs.declared.root.Root.{Root}
use Rattle.node_core.specs.declared.node.Node.{Node}
use Rattle.node_log.specs.Images.{node_of, node_with}
use Rattle.log_replay.specs.declared.corruption.Corruption.{Corruption}
use Rattle.log_replay.specs.declared.corruption.Corruption.TheVariants.{Missing, Tree}
use Rattle.log_trees.specs.Placed.{Placed, entry_at}
use Rattle.log_trees.specs.Changes.{LoggedChange}
use Rattle.log_trees.specs.Images.{NamedLsn, slots_shown}
use Rattle.log_trees.specs.Trees.{data_in}
use Rattle.log_trees.specs.Bounds.{least_name, slots_inside, Child, children}

-- ---- readings, one after another

-- a reading that goes on where the one before it had no corruption
abbrev pub and_then : {A B : Type 0} → Result A Corruption → (A → Result B Corruption) → Result B Corruption
and_then (Ok x) f = f x
and_then (Err corruption) f = Err corruption

-- each of a list is read, in order
abbrev pub each : {A B : Type 0} → (A → B → Result B Corruption) → List A → B → Result B Corruption
each read [] so_far = Ok so_far
each read (x ∷ xs) so_far = and_then (read x so_far) (each read xs)

-- the numbers of the nodes that were read, and the records, as the changes that give them
pub record Walk : Type 0 where
  pub seen : List ℕ
  pub rows : List LoggedChange

-- ---- one image

-- an LSN that names nothing lower: its file is missing, or else no entry begins there that may be named
abbrev pub nowhere : List ℕ → ℕ → Corruption
nowhere files at = if list_any (λ f. f == at / 2 ^ 32) files then Tree at else Missing at

-- whether an entry is the full image of this BIN
abbrev pub is_bin_of : ℕ → ℕ → Entry → Bool
is_bin_of db number (Bin d n slots) = (d == db) && (n == number)
is_bin_of db number entry = false

-- a node that is of this database, read from the image at this LSN
abbrev pub node_read : ℕ → ℕ → Option Node → Result Node Corruption
node_read d at None = Err (Tree at)
node_read d at (Some n) = if n.db == d then Ok n else Err (Tree at)

-- a delta at an LSN together with its full image: that is of the same BIN, and both have at most 128 slots
abbrev pub delta_by : Option Node → Corruption → Result Node Corruption
delta_by None corruption = Err corruption
delta_by (Some n) corruption = Ok n

-- a delta put together with its full image, or the corruption at whichever of the two is wrong
abbrev pub delta_with : ℕ → ℕ → ℕ → ℕ → Entry → Entry → Result Node Corruption
delta_with at db number full delta base = delta_by (node_with base delta) (Tree (if is_bin_of db number base then at else full))

-- the same, where there may be no full image
abbrev pub delta_on : List ℕ → ℕ → ℕ → ℕ → ℕ → Entry → Option Entry → Result Node Corruption
delta_on files at db number full delta None = Err (nowhere files full)
delta_on files at db number full delta (Some base) = delta_with at db number full delta base

-- the node of this database that an entry at an LSN shows
abbrev pub image_in : List ℕ → List Placed → ℕ → ℕ → Entry → Result Node Corruption
image_in files es d at (BinDelta db number full slots) =
    if db == d then (if nat_lt full at then delta_on files at db number full (BinDelta db number full slots) (entry_at es full) else Err (nowhere files full)) else Err (Tree at)
image_in files es d at entry = node_read d at (node_of entry)

-- the node that the entry at an LSN shows, or that there is no entry
abbrev pub image_by : List ℕ → List Placed → ℕ → ℕ → Option Entry → Result Node Corruption
image_by files es d at None = Err (nowhere files at)
image_by files es d at (Some entry) = image_in files es d at entry

-- the node of this database that the image at an LSN shows
abbrev pub read_image : List ℕ → List Placed → ℕ → ℕ → Result Node Corruption
read_image files es d at = image_by files es d at (entry_at es at)

-- ---- one tree

-- whether a node may stand here: it is of this level, and its number is new
abbrev pub may_stand : ℕ → List ℕ → Node → Bool
may_stand level seen n = (n.level == level) && not (list_any (λ m. m == n.number) seen)

-- a node that may stand here, or the corruption at its image
abbrev pub node_standing : ℕ → ℕ → List ℕ → Node → Result Node Corruption
node_standing level at seen n = if may_stand level seen n then Ok n else Err (Tree at)

-- reads the image at an LSN as a node that may stand here
abbrev pub read_here : List ℕ → List Placed → ℕ → ℕ → ℕ → List ℕ → Result Node Corruption
read_here files es d level at seen = and_then (read_image files es d at) (node_standing level at seen)

-- a walk with one node more, and one with one record more
abbrev pub met : Node → Walk → Walk
met n walk = record { seen = n.number ∷ walk.seen; rows = walk.rows }

-- a walk with one record more
abbrev pub with_record : ℕ → NamedLsn → List ℕ → Walk → Walk
with_record d s value walk = record { seen = walk.seen; rows = walk.rows ++ record { db = d; name = s.0; written = record { at = s.1; value = Some value } } ∷ [] }

-- the record that a slot names
abbrev pub record_in : ℕ → NamedLsn → Walk → Option (List ℕ) → Result Walk Corruption
record_in d s walk None = Err (Tree s.1)
record_in d s walk (Some value) = Ok (with_record d s value walk)

-- the record of a slot from the entry that its LSN names, or that there is no entry
abbrev pub record_by : List ℕ → ℕ → NamedLsn → Walk → Option Entry → Result Walk Corruption
record_by files d s walk None = Err (nowhere files s.1)
record_by files d s walk (Some entry) = record_in d s walk (data_in d s.0 entry)

-- reads the record of a slot, whose entry stands below the slot's image
abbrev pub read_record : List ℕ → List Placed → ℕ → ℕ → NamedLsn → Walk → Result Walk Corruption
read_record files es d at s walk = if nat_lt s.1 at then record_by files d s walk (entry_at es s.1) else Err (nowhere files s.1)

-- a child of an IN at an LSN
abbrev pub read_child : List ℕ → (Name → Option Name → ℕ → Walk → Result Walk Corruption) → ℕ → Child → Walk → Result Walk Corruption
read_child files read at child walk = if nat_lt child.at at then read child.low child.high child.at walk else Err (nowhere files child.at)

-- the tree below an image, `above` levels above its BINs, from the left, depth first; what lies outside the bounds is read past
abbrev pub read_node : List ℕ → List Placed → ℕ → ℕ → Name → Option Name → ℕ → Walk → Result Walk Corruption
read_node files es d zero low high at walk =
    and_then (read_here files es d 1 at walk.seen) (λ n. each (read_record files es d at) (slots_inside low high (slots_shown n)) (met n walk))
read_node files es d (suc above) low high at walk =
    and_then (read_here files es d (suc (suc above)) at walk.seen)
    (λ n. each (read_child files (read_node files es d above) at) (children low high (slots_shown n)) (met n walk))

-- ---- roots

-- reads the tree below the image at an LSN, whose node is of a level
abbrev pub read_level : List ℕ → List Placed → ℕ → ℕ → ℕ → Walk → Result Walk Corruption
read_level files es d zero at walk = Err (Tree at)
read_level files es d (suc above) at walk = read_node files es d above least_name None at walk

-- the tree of a root that a checkpoint's end at this LSN names
abbrev pub read_root : List ℕ → List Placed → ℕ → Root → Walk → Result Walk Corruption
read_root files es end root walk =
    if nat_lt root.image end then and_then (read_image files es root.db root.image) (λ n. read_level files es root.db n.level root.image walk) else Err (nowhere files root.image)

-- the trees of all roots, in order
abbrev pub read_roots : List ℕ → List Placed → ℕ → List Root → Result Walk Corruption
read_roots files es end roots = each (read_root files es end) roots (record { seen = []; rows = [] })
