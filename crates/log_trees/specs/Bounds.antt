-- Bounds of names, and what an image's slots count for within a node's bounds.
use Rattle.std.specs.Prelude.{ℕ, ◌&&◌, not, if◌then◌else◌, Bool, true, List, [], ◌∷◌, Option, None, Some, filter}
use Rattle.std.specs.Ordering.{is_lt}
use Rattle.je_order.specs.Order.{name_cmp}
use Rattle.je_order.specs.declared.name.Name.{Name}
use Rattle.log_trees.specs.Images.{NamedLsn}

-- the least name
abbrev pub least_name : Name
least_name = record { key = []; dup = [] }

-- whether a name is below a bound; no bound is above all names
abbrev pub is_below : Name → Option Name → Bool
is_below x None = true
is_below x (Some high) = is_lt (name_cmp x high)

-- whether a name lies within bounds, the lower one included
abbrev pub is_within : Name → Option Name → Name → Bool
is_within low high x = not (is_lt (name_cmp x low)) && is_below x high

-- the slots whose names lie within bounds; a BIN's others count for nothing
abbrev pub slots_inside : Name → Option Name → List NamedLsn → List NamedLsn
slots_inside low high slots = filter (λ s. is_within low high s.0) slots

-- a child of an IN: the bounds of its names, and where its image stands
pub record Child : Type 0 where
  pub low : Name
  pub high : Option Name
  pub at : ℕ

-- the children of an IN with these bounds: each has the names from its slot's to the next slot's, the first one those from the lower bound on, as far as
-- they lie within the bounds; a child without such names is none
abbrev pub children : Name → Option Name → List NamedLsn → List Child
children low high [] = []
children low high (s ∷ []) = record { low = low; high = high; at = s.1 } ∷ []
children low high (s ∷ next ∷ slots) =
    if is_lt (name_cmp low next.0)
    then (if is_below next.0 high then record { low = low; high = Some next.0; at = s.1 } ∷ children next.0 high (next ∷ slots) else record { low = low; high = high; at = s.1 } ∷ [])
    else children low high (next ∷ slots)
