-- Lows that are put on levels.
use Rattle.std.proofs.Common.{◌≡◌, ◌∙◌, ℕ, List, IsSome, Some, refl, sym, subst}
use Rattle.je_order.specs.declared.name.Name.{Name}
use Rattle.record_map.specs.Cells.{value_at}
use Rattle.record_map.proofs.NameLaws.{same_gets}
use Rattle.tree_nodes.specs.declared.node.Node.{Node}
use Rattle.tree_nodes.specs.Nodes.{NodeRow}
use Rattle.tree_nodes.specs.Levels.{row_of, HasPutAt}

-- a low has the node that was put under a copy of it
pub low_put : (old new : List NodeRow) (level : ℕ) (low copy : Name) (node : Node) → copy ≡ low → HasPutAt old new level copy node → IsSome (value_at low (row_of new level))
low_put old new level low copy node same put =
    subst (λ (y : Name). IsSome (value_at y (row_of new level))) same
    (subst IsSome (sym (put.here copy ∙ same_gets copy (Some node) (value_at copy (row_of old level)))) refl)
