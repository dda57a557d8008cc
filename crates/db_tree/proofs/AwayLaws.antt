-- BINs that have not their last images' content, as it is known without going over their cells.
use Rattle.std.proofs.Common.{◌≡◌, ◌&&◌, not, ℕ, List, Bool, true, false, Option, None, Some, option_map, is_some, refl, ap, sym, ◌∙◌}
use Rattle.std.proofs.lemmas.Bool.{true≢false}
use Rattle.std.proofs.lemmas.Option.{none-some, same_Some}
use Rattle.je_order.specs.declared.name.Name.{Name}
use Rattle.record_map.specs.declared.cell.Cell.{Cell}
use Rattle.record_map.specs.Cells.{is_as_shown, value_at}
use Rattle.tree_nodes.specs.declared.node.Node.{Node}
use Rattle.tree_nodes.specs.Nodes.{NodeRow, IsOver, marked}
use Rattle.tree_nodes.specs.Levels.{row_of, HasMarkedAt}
use Rattle.db_tree.specs.Dirty.{IsAway, is_as_imaged, is_unlike}
use Rattle.db_tree.proofs.DirtyLaws.{imaged_may, unlike_away}
use Rattle.db_tree.proofs.Over.{over_once}
use Rattle.db_tree.proofs.Records.{marked_over}

unlike_is : (last : Option ℕ) (o : Option Cell) (shown : Bool) → option_map (is_as_shown last) o ≡ Some shown → is_unlike last o ≡ not shown
unlike_is last None shown is = absurd (none-some shown is)
unlike_is last (Some cell) shown is = ap not (same_Some (is_as_shown last cell) shown is)

same_node : (row : NodeRow) (x : Name) (e f : Name × Node) → IsOver row x e → IsOver row x f → e.1 ≡ f.1
same_node row x e f first second = same_Some e.1 f.1 (sym first.there ∙ ap (λ (y : Name). value_at y row) (over_once row x e f first second) ∙ second.there)

-- a BIN that waits or has no image, where it is marked
pub away_waiting : (old mid : List NodeRow) (cells : List (Name × Cell)) (x : Name) (from : ℕ) (e : Name × Node) (may : Bool) → HasMarkedAt old mid 0 x from → IsOver (row_of old 0) x e →
    may ≡ (not e.1.forced && is_some e.1.last) → may ≡ false → IsAway cells mid x
away_waiting old mid cells x from e may m over is out = record {
  e = (m.e.0, marked from m.e.1);
  over = marked_over old mid 0 x from m;
  away = by_test (is_as_imaged (row_of mid 0) cells (m.e.0, marked from m.e.1)) refl;
}
  where
    by_test : (t : Bool) → is_as_imaged (row_of mid 0) cells (m.e.0, marked from m.e.1) ≡ t → is_as_imaged (row_of mid 0) cells (m.e.0, marked from m.e.1) ≡ false
    by_test false h = h
    by_test true h =
        absurd (true≢false (sym (imaged_may (row_of mid 0) cells (m.e.0, marked from m.e.1) h)
        ∙ ap (λ (n : Node). not n.forced && is_some n.last) (sym (same_node (row_of old 0) x e m.e over m.over)) ∙ sym is ∙ out))

-- a BIN whose last image says something else of the name, where it is marked
pub away_unlike : (old mid : List NodeRow) (cells : List (Name × Cell)) (x : Name) (from : ℕ) (e : Name × Node) (shown : Bool) → HasMarkedAt old mid 0 x from → IsOver (row_of old 0) x e →
    option_map (is_as_shown e.1.last) (value_at x cells) ≡ Some shown → shown ≡ false → IsAway cells mid x
away_unlike old mid cells x from e shown m over is out = record {
  e = (m.e.0, marked from m.e.1);
  over = marked_over old mid 0 x from m;
  away = unlike_away (row_of mid 0) cells x (m.e.0, marked from m.e.1) (marked_over old mid 0 x from m)
      (ap (λ (n : Node). is_unlike n.last (value_at x cells)) (sym (same_node (row_of old 0) x e m.e over m.over)) ∙ unlike_is e.1.last (value_at x cells) shown is ∙ ap not out);
}
