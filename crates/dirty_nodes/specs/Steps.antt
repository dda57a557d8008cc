-- One tree after another.
use Rattle.std.specs.Prelude.{◌≡◌, ◌<◌, ℕ, Bool, true, false, List, Option, None, Some}
use Rattle.std.specs.List.{list_any}
use Rattle.std.specs.Ordering.{is_eq, is_lt, nat_cmp}
use Rattle.std.specs.BTreeMap.{BTreeMap, get}
use Rattle.record_tree.specs.Nodes.{place_cmp}
use Rattle.record_tree.specs.declared.node_place.NodePlace.{NodePlace}
use Rattle.db_tree.specs.declared.tree.DbTree.{DbTree}
use Rattle.tree_nodes.specs.Nodes.{NodeRow}
use Rattle.tree_nodes.specs.Levels.{row_of}
use Rattle.tree_nodes.specs.Noted.{NoneDue, IsNextDue}
use Rattle.tree_nodes.specs.declared.node.Node.{Node}
use Rattle.dirty_nodes.specs.Forest.{IsNotedOne}

-- a database's tree has its nodes noted, or is as before
abbrev pub IsNotedIf : Bool → Option DbTree → Option DbTree → Type 0
IsNotedIf true old new = IsNotedOne old new
IsNotedIf false old new = new ≡ old

-- the trees of some databases have their nodes noted, and the others are as before
abbrev pub AreNotedFor : List ℕ → BTreeMap ℕ DbTree → BTreeMap ℕ DbTree → Type 0
AreNotedFor dbs old new = (d : ℕ) → IsNotedIf (list_any (λ b. is_eq (nat_cmp b d)) dbs) (get nat_cmp old d) (get nat_cmp new d)

-- the next node of a tree is due, and has the lowest level of those that are, and the lowest number on that level
pub record IsNextPlace (db : ℕ) (rows : List NodeRow) (p : NodePlace) : Type 0 where
  pub own : p.db ≡ db
  pub node : Node
  pub number : p.node ≡ node.number
  pub next : IsNextDue (row_of rows p.level) (p.low, node)
  pub below : (k : ℕ) → k < p.level → NoneDue (row_of rows k)

abbrev pub IsNextAt : ℕ → List NodeRow → Option NodePlace → Type 0
IsNextAt db rows None = (level : ℕ) → NoneDue (row_of rows level)
IsNextAt db rows (Some p) = IsNextPlace db rows p

-- a node is logged before another one, or there is no other one
abbrev pub is_first : NodePlace → Option NodePlace → Bool
is_first p None = true
is_first p (Some q) = is_lt (place_cmp p q)
