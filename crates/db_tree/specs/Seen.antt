-- What transactions see of a tree's cells.
use Rattle.std.specs.Prelude.{ℕ, List, Option, Some, None, map, filter}
use Rattle.je_order.specs.declared.name.Name.{Name}
use Rattle.record_map.specs.declared.cell.Cell.{Cell}
use Rattle.record_map.specs.declared.write.Write.{Write}
use Rattle.record_tree.specs.Occupied.{Occupied, occupied_by, is_occupied, if_occupied, value_in, write_in}

-- what transactions see of a name
abbrev pub seen : Option Cell → Option Occupied
seen None = None
seen (Some cell) = if_occupied (occupied_by cell)

-- the names that are occupied
abbrev pub occupied : List (Name × Cell) → List (Name × Occupied)
occupied cells = filter (λ e. is_occupied e.1) (map (λ e. (e.0, occupied_by e.1)) cells)

-- a name with a change that is not committed
abbrev pub with_change : Write → Option Occupied → Option Occupied
with_change write o = Some (record { value = value_in o; write = Some write })

-- a name of which other data, or none, is committed
abbrev pub with_value : Option (List ℕ) → Option Occupied → Option Occupied
with_value value o = if_occupied (record { value = value; write = write_in o })
