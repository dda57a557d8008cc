-- The cells of a database: how they are found by their names, and how they change.
use Rattle.std.specs.Prelude.{ℕ, ◌==◌, Bool, true, false, List, [], ◌∷◌, Option, None, Some, filter, nat_lt, option_map, Box, if◌then◌else◌}
use Rattle.std.specs.Global.{Global}
use Rattle.std.specs.Map.{lookup, keys_of}
use Rattle.std.specs.BTreeMap.{is_at}
use Rattle.std.specs.List.Sorted.{IsStrictlySortedBy}
use Rattle.je_order.specs.Order.{name_cmp}
use Rattle.je_order.specs.Edges.{Edge, is_below, is_between}
use Rattle.je_order.specs.Edges.Edge.{First, At, Behind, End}
use Rattle.je_order.specs.declared.name.Name.{Name}
use Rattle.node_core.specs.declared.slot.Version.{Version}
use Rattle.node_core.specs.declared.slot.Version.TheVariants.{There, Deleted, Unset}
use Rattle.record_map.specs.declared.cell.Cell.{Cell}
use Rattle.record_map.specs.declared.write.Write.{Write}
use Rattle.record_map.specs.declared.edge_ref.EdgeRef.{EdgeRef}
use Rattle.record_map.specs.declared.edge_ref.EdgeRef.TheVariants.{First as FirstRef, At as AtRef, Behind as BehindRef, End as EndRef}

-- ---- lists of names, each with a value

-- what a list has under a name
abbrev pub value_at : {V : Type 0} → Name → List (Name × V) → Option V
value_at name entries = lookup (is_at (name_cmp name)) entries

-- whether names rise strictly
abbrev pub IsRising : {V : Type 0} → List (Name × V) → Type 0
IsRising entries = IsStrictlySortedBy name_cmp (keys_of entries)

-- the first of a list, and the last
abbrev pub first_of : {A : Type 0} → List A → Option A
first_of [] = None
first_of (x ∷ xs) = Some x

abbrev pub last_of : {A : Type 0} → List A → Option A
last_of [] = None
last_of (x ∷ []) = Some x
last_of (x ∷ y ∷ xs) = last_of (y ∷ xs)

-- those from an edge on, those below it, and those between two edges
abbrev pub from_edge : {V : Type 0} → Edge → List (Name × V) → List (Name × V)
from_edge edge entries = filter (λ e. is_between edge End e.0) entries

abbrev pub below_edge : {V : Type 0} → Edge → List (Name × V) → List (Name × V)
below_edge edge entries = filter (λ e. is_below edge e.0) entries

abbrev pub between_edges : {V : Type 0} → Edge → Edge → List (Name × V) → List (Name × V)
between_edges from upto entries = filter (λ e. is_between from upto e.0) entries

-- a count, where it is not below the least one that is wanted
abbrev pub count_if : ℕ → ℕ → Option ℕ
count_if least count = if nat_lt count least then None else Some count

-- the edge that a search is given
abbrev pub edge_of : EdgeRef → Edge
edge_of FirstRef = First
edge_of (AtRef name) = At name.now
edge_of (BehindRef name) = Behind name.now
edge_of EndRef = End

-- the edge in front of a name, and behind all names where there is none
abbrev pub upper_edge : Option Name → Edge
upper_edge None = End
upper_edge (Some name) = At name

-- ---- cells

-- the cell of a name of which nothing is committed
abbrev pub fresh : Cell
fresh = record { version = Unset; shown = Unset; touched = 0; «data» = []; write = None }

-- whether two versions are the same
abbrev pub is_same_version : Version → Version → Bool
is_same_version (There a) (There b) = a == b
is_same_version (There a) Deleted = false
is_same_version (There a) Unset = false
is_same_version Deleted (There b) = false
is_same_version Deleted Deleted = true
is_same_version Deleted Unset = false
is_same_version Unset (There b) = false
is_same_version Unset Deleted = false
is_same_version Unset Unset = true

-- where the change of a cell was logged, if it has one
abbrev pub change_at : Cell → Option ℕ
change_at cell = option_map (λ write. write.value.at) cell.write

-- what the last image of a cell's BIN shows of it, by the image's LSN; without one, what is kept for it
abbrev pub shown_by : Option ℕ → Cell → Version
shown_by None cell = cell.shown
shown_by (Some last) cell = if nat_lt last cell.touched then cell.shown else cell.version

-- whether the last image of a cell's BIN, which is at an LSN, says of it what is committed
abbrev pub is_as_shown : Option ℕ → Cell → Bool
is_as_shown last cell = is_same_version (shown_by last cell) cell.version

-- a cell with a version and its data, committed by the Commit at an LSN
abbrev pub with_version : Version → List ℕ → ℕ → Option ℕ → Cell → Cell
with_version version value at last cell =
    record { version = version; shown = shown_by last cell; touched = at; «data» = value; write = cell.write }

-- a cell whose change is committed
abbrev pub with_committed : ℕ → Option (List ℕ) → ℕ → Option ℕ → Cell → Cell
with_committed lsn (Some value) at last cell = with_version (There lsn) value at last cell
with_committed lsn None at last cell = with_version Deleted [] at last cell

-- a cell with another change, or none
abbrev pub with_write : Option (Box Write Global) → Cell → Cell
with_write write cell = record cell { write = write }

-- a cell after the Commit at an LSN of the transaction that changed it
abbrev pub committed_by : Option Write → ℕ → Option ℕ → Cell → Cell
committed_by None at last cell = cell
committed_by (Some write) at last cell = with_committed write.at write.value at last (with_write None cell)

abbrev pub committed : ℕ → Option ℕ → Cell → Cell
committed at last cell = committed_by (option_map (λ write. write.value) cell.write) at last cell
