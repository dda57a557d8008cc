-- The nodes that a checkpoint notes, and those that it logs.
use Rattle.std.specs.Prelude.{◌≡◌, ◌≤◌, ◌+◌, ◌&&◌, ◌||◌, ℕ, zero, suc, Bool, true, false, List, Option, None, Some, length, map}
use Rattle.std.specs.List.{list_any, count_by, sum_by}
use Rattle.std.specs.Map.{keys_of}
use Rattle.std.specs.Ordering.{is_eq}
use Rattle.je_order.specs.Order.{name_cmp}
use Rattle.je_order.specs.declared.name.Name.{Name}
use Rattle.record_map.specs.Cells.{value_at}
use Rattle.tree_nodes.specs.declared.node.Node.{Node}
use Rattle.tree_nodes.specs.Nodes.{NodeRow, is_dirty, is_due, noted_as}
use Rattle.tree_nodes.specs.Levels.{row_of}
use Rattle.tree_nodes.specs.Lows.{low_up_to}

-- ---- which nodes are noted

-- a level in which the nodes are noted that a test finds, and no others
abbrev pub noted_row : (Name × Node → Bool) → NodeRow → NodeRow
noted_row test row = map (λ e. (e.0, noted_as (test e) e.1)) row

-- whether the node over a name, of a level, is the one with a low
abbrev pub is_low_over : NodeRow → Name → Name → Bool
is_low_over row x low = is_eq (name_cmp (low_up_to x (keys_of row)) low)

-- whether a node of a level is dirty, or above one that is: a child of it is dirty, or above one that is
abbrev pub is_to_note : List NodeRow → ℕ → Name × Node → Bool
is_to_note rows zero e = is_dirty e.1
is_to_note rows (suc k) e = is_dirty e.1 || list_any (λ c. is_to_note rows k c && is_low_over (row_of rows (suc k)) c.0 e.0) (row_of rows k)

-- the dirty nodes and those above them are noted, and no others; nothing else changed
pub record AreNoted (old new : List NodeRow) : Type 0 where
  pub height : length new ≡ length old
  pub each : (level : ℕ) → row_of new level ≡ noted_row (is_to_note old level) (row_of old level)

-- whether a node with a low has a child that is noted
abbrev pub has_noted_child : NodeRow → NodeRow → Name → Bool
has_noted_child below row low = list_any (λ c. c.1.noted && is_low_over row c.0 low) below

-- a level in which the nodes are noted that are dirty, or have a child that is noted; those of the lowest level have none
abbrev pub noted_level : List NodeRow → ℕ → NodeRow
noted_level rows zero = noted_row (λ e. is_dirty e.1) (row_of rows 0)
noted_level rows (suc k) = noted_row (λ e. is_dirty e.1 || has_noted_child (row_of rows k) (row_of rows (suc k)) e.0) (row_of rows (suc k))

pub record HasNotedLevel (old new : List NodeRow) (level : ℕ) : Type 0 where
  pub height : length new ≡ length old
  pub here : row_of new level ≡ noted_level old level
  pub others : (k : ℕ) → (k ≡ level → ⊥) → row_of new k ≡ row_of old k

-- ---- which nodes are logged

-- no node of a level is noted and dirty
abbrev pub NoneDue : NodeRow → Type 0
NoneDue row = (x : Name) (n : Node) → value_at x row ≡ Some n → is_due n ≡ false

-- the node of a level that is noted and dirty, and has the least number of these
pub record IsNextDue (row : NodeRow) (e : Name × Node) : Type 0 where
  pub there : value_at e.0 row ≡ Some e.1
  pub due : is_due e.1 ≡ true
  pub least : (x : Name) (n : Node) → value_at x row ≡ Some n → is_due n ≡ true → e.1.number ≤ n.number

-- the next one of a level, if there is one
abbrev pub NextDue : NodeRow → Option (Name × Node) → Type 0
NextDue row None = NoneDue row
NextDue row (Some e) = IsNextDue row e

-- the next one of a tree: that of the lowest level that has one
abbrev pub NextIn : List NodeRow → Option (ℕ × Name × Node) → Type 0
NextIn rows None = (level : ℕ) → NoneDue (row_of rows level)
NextIn rows (Some e) = IsNextDue (row_of rows e.0) (e.1, e.2) × ((k : ℕ) → k + 1 ≤ e.0 → NoneDue (row_of rows k))

-- how many nodes of a level are noted and dirty, and how many of a tree
abbrev pub count_due : NodeRow → ℕ
count_due row = count_by (λ e. is_due e.1) row

abbrev pub count_all_due : List NodeRow → ℕ
count_all_due rows = sum_by count_due rows
