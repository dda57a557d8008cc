-- Edges between the names of a database: where a search begins or ends.
use Rattle.std.specs.Prelude.{Bool, true, false, not, ◌&&◌}
use Rattle.std.specs.Ordering.{is_gt, is_ge}
use Rattle.je_order.specs.declared.name.Name.{Name}
use Rattle.je_order.specs.Order.{name_cmp}

-- an edge: in front of all names, in front of a name, right behind a name, or behind all names
pub data Edge : Type 0 where
  First : Edge
  At : Name → Edge
  Behind : Name → Edge
  End : Edge

-- whether a name is below an edge
abbrev pub is_below : Edge → Name → Bool
is_below First name = false
is_below (At edge) name = is_gt (name_cmp edge name)
is_below (Behind edge) name = is_ge (name_cmp edge name)
is_below End name = true

-- whether a name is between two edges
abbrev pub is_between : Edge → Edge → Name → Bool
is_between from upto name = not (is_below from name) && is_below upto name
