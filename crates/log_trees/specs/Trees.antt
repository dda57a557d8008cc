-- Trees as the log shows them: the records below an image, and the entry that an image shows for a name.
use Rattle.std.specs.Prelude.{ℕ, zero, suc, ◌==◌, ◌&&◌, nat_lt, if◌then◌else◌, List, [], ◌∷◌, Option, None, Some, map, find, filter, option_map}
use Rattle.std.specs.Option.{option_and_then}
use Rattle.std.specs.List.{flat_map}
use Rattle.std.specs.Map.{lookup}
use Rattle.std.specs.Ordering.{is_lt, is_eq}
use Rattle.je_order.specs.Order.{name_cmp}
use Rattle.je_order.specs.declared.name.Name.{Name}
use Rattle.log_entry.specs.declared.entry.Entry.{Entry}
use Rattle.log_entry.specs.declared.entry.Entry.TheVariants.{Put, Migrated}
use Rattle.log_entry.specs.declared.root.Root.{Root}
use Rattle.log_trees.specs.Placed.{Placed, entry_at}
use Rattle.log_trees.specs.Changes.{Written, unwritten, LoggedChange}
use Rattle.log_trees.specs.Images.{NamedLsn, node_at, slots_of_level, image, level_at}
use Rattle.log_trees.specs.Bounds.{least_name, slots_inside, Child, children}

-- ---- the records below an image

-- the children within bounds of the IN of this level that the image at an LSN shows, which stand at lower LSNs
abbrev pub children_at : List Placed → ℕ → Name → Option Name → ℕ → List Child
children_at es level low high at = filter (λ c. nat_lt c.at at) (children low high (slots_of_level level (node_at es at)))

-- the records within bounds below an image that stands `above` levels above the BINs: those that the BINs show, from the left
abbrev pub slots_at : List Placed → ℕ → Name → Option Name → ℕ → List NamedLsn
slots_at es zero low high at = slots_inside low high (image es 1 at)
slots_at es (suc above) low high at = flat_map (λ c. slots_at es above c.low c.high c.at) (children_at es (suc (suc above)) low high at)

-- the LSN that slots have for a name
abbrev pub found : Name → List NamedLsn → Option ℕ
found x slots = lookup (λ y. is_eq (name_cmp x y)) slots

-- ---- one name

-- the child for a name: that of the last slot whose name is not above it; the first child has the lower names too
abbrev pub child_behind : Name → ℕ → List NamedLsn → ℕ
child_behind x child [] = child
child_behind x child (s ∷ slots) = if is_lt (name_cmp x s.0) then child else child_behind x s.1 slots

abbrev pub child_over : Name → List NamedLsn → Option ℕ
child_over x [] = None
child_over x (s ∷ slots) = Some (child_behind x s.1 slots)

-- the LSN that an image shows for a name: down from child to child, and then the BIN's slot
abbrev pub shows : List Placed → ℕ → ℕ → Name → Option ℕ
shows es zero at x = found x (image es 1 at)
shows es (suc above) at x = option_and_then (λ child. shows es above child x) (child_over x (image es (suc (suc above)) at))

-- ---- data

-- the data that an entry gives a record: it is a put or a migrated copy of it
abbrev pub data_in : ℕ → Name → Entry → Option (List ℕ)
data_in d x (Put txn db name value) = if (db == d) && is_eq (name_cmp name x) then Some value else None
data_in d x (Migrated db name value) = if (db == d) && is_eq (name_cmp name x) then Some value else None
data_in d x entry = None

-- the data of a record whose last change stands at an LSN
abbrev pub data_of : List Placed → ℕ → Name → ℕ → Option (List ℕ)
data_of es d x lsn = option_and_then (data_in d x) (entry_at es lsn)

-- what stands under a name that a tree shows this LSN for
abbrev pub written_at : List Placed → ℕ → Name → Option ℕ → Written
written_at es d x None = unwritten
written_at es d x (Some lsn) = record { at = lsn; value = data_of es d x lsn }

-- a record of a tree as a change that gives it
abbrev pub loaded : List Placed → ℕ → NamedLsn → LoggedChange
loaded es d s = record { db = d; name = s.0; written = record { at = s.1; value = data_of es d s.0 s.1 } }

-- ---- roots

-- the records of the tree whose root's image stands at an LSN
abbrev pub slots_by_level : List Placed → ℕ → ℕ → List NamedLsn
slots_by_level es zero at = []
slots_by_level es (suc above) at = slots_at es above least_name None at

-- the names and LSNs of the records below the root's image at an LSN
abbrev pub slots_of_tree : List Placed → ℕ → List NamedLsn
slots_of_tree es at = slots_by_level es (level_at es at) at

-- the LSN that a tree shows for a name
abbrev pub shows_by_level : List Placed → ℕ → ℕ → Name → Option ℕ
shows_by_level es zero at x = None
shows_by_level es (suc above) at x = shows es above at x

abbrev pub tree_shows : List Placed → ℕ → Name → Option ℕ
tree_shows es at x = shows_by_level es (level_at es at) at x

-- the records of the trees that a checkpoint's end at this LSN names, as the changes that give them
abbrev pub rows_of_root : List Placed → ℕ → Root → List LoggedChange
rows_of_root es end root = if nat_lt root.image end then map (loaded es root.db) (slots_of_tree es root.image) else []

-- the records below each of a checkpoint's roots, in order
abbrev pub rows_of_roots : List Placed → ℕ → List Root → List LoggedChange
rows_of_roots es end roots = flat_map (rows_of_root es end) roots

-- where the root of a database is
abbrev pub root_of : ℕ → List Root → Option ℕ
root_of d roots = option_map (λ r. r.image) (find (λ r. r.db == d) roots)

-- what stands under a name in the trees of these roots
abbrev pub roots_show : List Placed → List Root → ℕ → Name → Written
roots_show es roots d x = written_at es d x (option_and_then (λ at. tree_shows es at x) (root_of d roots))
