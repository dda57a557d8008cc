-- BINs that were read are not dirty.
use Rattle.std.proofs.Common.{◌≡◌, ◌&&◌, ◌||◌, not, ℕ, Bool, true, false, cond, List, Option, None, Some, is_some, refl, ap, sym, ◌∙◌}
use Rattle.std.specs.Prelude.{nat_lt}
use Rattle.je_order.specs.Edges.{is_between}
use Rattle.je_order.specs.Edges.Edge.{At}
use Rattle.je_order.specs.declared.name.Name.{Name}
use Rattle.record_map.specs.declared.cell.Cell.{Cell}
use Rattle.record_map.specs.Cells.{value_at, between_edges, upper_edge, shown_by, IsRising}
use Rattle.tree_nodes.specs.declared.node.Node.{Node}
use Rattle.tree_nodes.specs.Nodes.{NodeRow, is_dirty, low_behind}
use Rattle.db_tree.specs.Dirty.{are_as_shown, is_as_imaged}
use Rattle.record_map.specs.Cells.{is_as_shown}
use Rattle.db_tree.proofs.Contents.{passed_found}
use Rattle.db_tree.proofs.DirtyCells.{found_all, passes}
use Rattle.db_tree.proofs.DirtyExact.{passed_none, passed_rises}
use Rattle.db_tree.proofs.DirtyLaws.{is_same}

-- a node without a mark, whose last image shows what is committed
shown_exact : (row : NodeRow) (cells : List (Name × Cell)) (low : Name) (n : Node) (at : ℕ) → n.forced ≡ false → n.last ≡ Some at → n.from ≡ None → are_as_shown (Some at) low row cells ≡ true → is_dirty n ≡ not (is_as_imaged row cells (low, n))
shown_exact row cells low n at still last from shown =
    ap (λ (t : Bool). (t || not (is_some n.last)) || is_some n.from) still
    ∙ ap (λ (o : Option ℕ). not (is_some o) || is_some n.from) last
    ∙ ap is_some from
    ∙ sym (ap (λ (t : Bool). not (not t && (is_some n.last && are_as_shown n.last low row cells))) still
    ∙ ap (λ (o : Option ℕ). not (is_some o && are_as_shown o low row cells)) last
    ∙ ap not shown)

-- a node that was read, with cells of which the last images of their BINs show what is committed
pub read_exact : (row : NodeRow) (cells : List (Name × Cell)) (low : Name) (n : Node) (at : ℕ) → IsRising cells → ((x : Name) (cell : Cell) → value_at x cells ≡ Some cell → cell.shown ≡ cell.version) →
    n.forced ≡ false → n.last ≡ Some at → n.from ≡ None → is_dirty n ≡ not (is_as_imaged row cells (low, n))
read_exact row cells low n at up shown still last from =
    shown_exact row cells low n at still last from
    (found_all (is_as_shown (Some at)) (between_edges (At low) (upper_edge (low_behind low row)) cells) (passed_rises (is_between (At low) (upper_edge (low_behind low row))) cells up)
    (λ x. by_test x (is_between (At low) (upper_edge (low_behind low row)) x) refl))
  where
    either : (t : Bool) (cell : Cell) → cell.shown ≡ cell.version → cond t cell.shown cell.version ≡ cell.version
    either true cell is = is
    either false cell is = refl

    by_cell : (x : Name) (o : Option Cell) → value_at x cells ≡ o → passes (is_as_shown (Some at)) o ≡ true
    by_cell x None there = refl
    by_cell x (Some cell) there = is_same (shown_by (Some at) cell) cell.version (either (nat_lt at cell.touched) cell (shown x cell there))

    by_test : (x : Name) (t : Bool) → is_between (At low) (upper_edge (low_behind low row)) x ≡ t → passes (is_as_shown (Some at)) (value_at x (between_edges (At low) (upper_edge (low_behind low row)) cells)) ≡ true
    by_test x false is = ap (passes (is_as_shown (Some at))) (passed_none (is_between (At low) (upper_edge (low_behind low row))) cells x is)
    by_test x true is = ap (passes (is_as_shown (Some at))) (passed_found (is_between (At low) (upper_edge (low_behind low row))) cells x is) ∙ by_cell x (value_at x cells) refl
