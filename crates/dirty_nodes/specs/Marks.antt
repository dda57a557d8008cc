-- Which nodes are dirty and noted, and from which LSN on their images lack something.
use Rattle.std.specs.Prelude.{◌==◌, ◌&&◌, ℕ, Bool, false, List, Option, None, Some}
use Rattle.je_order.specs.declared.name.Name.{Name}
use Rattle.record_map.specs.Cells.{value_at}
use Rattle.tree_nodes.specs.declared.node.Node.{Node}
use Rattle.tree_nodes.specs.Nodes.{NodeRow, is_dirty}
use Rattle.tree_nodes.specs.Levels.{row_of}
use Rattle.tree_nodes.specs.Noted.{is_to_note}
pub use Rattle.tree_nodes.specs.Marks.{AllFrom, AllSince, IsMark, IsMarkOr, is_before, is_marked_before}

-- whether there is a node of that number, and it passes a test
abbrev pub is_one : (Node → Bool) → Option Node → ℕ → Bool
is_one test None number = false
is_one test (Some n) number = (n.number == number) && test n

-- whether the node of a number, of a level with a low, is there and dirty, and noted; and whether it is dirty or above a dirty one
abbrev pub is_dirty_at : List NodeRow → ℕ → Name → ℕ → Bool
is_dirty_at rows level low number = is_one is_dirty (value_at low (row_of rows level)) number

abbrev pub is_noted_at : List NodeRow → ℕ → Name → ℕ → Bool
is_noted_at rows level low number = is_one (λ n. n.noted) (value_at low (row_of rows level)) number

abbrev pub is_to_note_at : List NodeRow → ℕ → Name → ℕ → Bool
is_to_note_at rows level low number = is_one (λ n. is_to_note rows level (low, n)) (value_at low (row_of rows level)) number
