-- A BIN has its last image's content exactly where this says what is committed.
use Rattle.std.proofs.Common.{◌≡◌, ◌&&◌, not, ℕ, Bool, true, false, List, Option, None, Some, is_some, refl, ap, sym, ◌∙◌}
use Rattle.std.proofs.lemmas.Bool.{true≢false, and_parts, and_from}
use Rattle.je_order.specs.Edges.{is_between}
use Rattle.je_order.specs.Edges.Edge.{At}
use Rattle.je_order.specs.declared.name.Name.{Name}
use Rattle.record_map.specs.declared.cell.Cell.{Cell}
use Rattle.record_map.specs.Cells.{value_at, between_edges, upper_edge, IsRising}
use Rattle.tree_nodes.specs.declared.node.Node.{Node}
use Rattle.tree_nodes.specs.Nodes.{NodeRow, IsOver, is_dirty, low_behind}
use Rattle.tree_nodes.specs.Levels.{row_of}
use Rattle.db_tree.specs.declared.node_at.NodeAt.{NodeAt}
use Rattle.db_tree.specs.Content.{kept_by, shown_held}
use Rattle.db_tree.specs.Dirty.{AreExact, HasContent, are_as_shown, is_as_imaged}
use Rattle.record_map.specs.Cells.{is_as_shown}
use Rattle.db_tree.specs.Images.{Placed}
use Rattle.db_tree.specs.Laws.{BinsAreDirtyByContent}
use Rattle.db_tree.specs.Trees.{KnowImages}
use Rattle.db_tree.specs.Waiting.{is_among}
use Rattle.db_tree.proofs.Contents.{passed_found, within}
use Rattle.db_tree.proofs.DirtyCells.{all_found, found_all, passes, passes_held}
use Rattle.db_tree.proofs.DirtyExact.{passed_none, passed_rises}
use Rattle.db_tree.proofs.DirtyLaws.{is_same, same_is}
use Rattle.db_tree.proofs.Within.{over_within}

module _ (es : Placed) (base : ℕ) (rows : List NodeRow) (cells : List (Name × Cell)) (due : List NodeAt) (low : Name) (n : Node) (know : KnowImages es base rows (kept_by cells)) where
  -- what is found of a name within the BIN
  own_found : (at : ℕ) (x : Name) → is_between (At low) (upper_edge (low_behind low (row_of rows 0))) x ≡ true → passes (is_as_shown (Some at)) (value_at x (between_edges (At low) (upper_edge (low_behind low (row_of rows 0))) cells)) ≡ passes (is_as_shown (Some at)) (value_at x cells)
  own_found at x is = ap (passes (is_as_shown (Some at))) (passed_found (is_between (At low) (upper_edge (low_behind low (row_of rows 0)))) cells x is)

  -- a BIN that has its last image's content: this says what is committed
  pub imaged_says : is_as_imaged (row_of rows 0) cells (low, n) ≡ true → HasContent es (row_of rows 0) cells (low, n)
  imaged_says is = by_last n.last refl both.0
    where
      both : (is_some n.last ≡ true) × (are_as_shown n.last low (row_of rows 0) cells ≡ true)
      both = and_parts (is_some n.last) (are_as_shown n.last low (row_of rows 0) cells) (and_parts (not n.forced) (is_some n.last && are_as_shown n.last low (row_of rows 0) cells) is).1

      by_last : (o : Option ℕ) → n.last ≡ o → is_some o ≡ true → HasContent es (row_of rows 0) cells (low, n)
      by_last None last some = absurd (true≢false (sym some))
      by_last (Some at) last some = record {
        at = at;
        image = last;
        says = λ x over.
            know.shown x (low, n) at over last
            ∙ same_is (shown_held at (kept_by cells x)) (kept_by cells x).version
            (sym (passes_held (Some at) (value_at x cells)) ∙ sym (own_found at x (within (row_of rows 0) x (low, n) over))
            ∙ all_found (is_as_shown (Some at)) (between_edges (At low) (upper_edge (low_behind low (row_of rows 0))) cells) (sym (ap (λ (o : Option ℕ). are_as_shown o low (row_of rows 0) cells) last) ∙ both.1) x);
      }

  -- and one whose last image says what is committed has its content
  pub says_imaged : IsRising (row_of rows 0) → IsRising cells → value_at low (row_of rows 0) ≡ Some n → n.forced ≡ false → HasContent es (row_of rows 0) cells (low, n) → is_as_imaged (row_of rows 0) cells (low, n) ≡ true
  says_imaged up up_cells there still has =
      and_from (not n.forced) (is_some n.last && are_as_shown n.last low (row_of rows 0) cells) (ap not still)
      (and_from (is_some n.last) (are_as_shown n.last low (row_of rows 0) cells) (ap is_some has.image)
      (ap (λ (o : Option ℕ). are_as_shown o low (row_of rows 0) cells) has.image
      ∙ found_all (is_as_shown (Some has.at)) (between_edges (At low) (upper_edge (low_behind low (row_of rows 0))) cells)
      (passed_rises (is_between (At low) (upper_edge (low_behind low (row_of rows 0)))) cells up_cells) (λ x. by_test x (is_between (At low) (upper_edge (low_behind low (row_of rows 0))) x) refl)))
    where
      by_test : (x : Name) (t : Bool) → is_between (At low) (upper_edge (low_behind low (row_of rows 0))) x ≡ t →
          passes (is_as_shown (Some has.at)) (value_at x (between_edges (At low) (upper_edge (low_behind low (row_of rows 0))) cells)) ≡ true
      by_test x false is = ap (passes (is_as_shown (Some has.at))) (passed_none (is_between (At low) (upper_edge (low_behind low (row_of rows 0)))) cells x is)
      by_test x true is =
          let over : IsOver (row_of rows 0) x (low, n) = over_within (row_of rows 0) x low n up there is in
          own_found has.at x is ∙ passes_held (Some has.at) (value_at x cells)
          ∙ is_same (shown_held has.at (kept_by cells x)) (kept_by cells x).version (sym (know.shown x (low, n) has.at over has.image) ∙ has.says x over)

  -- so a BIN that does not wait is dirty exactly where its last image has not its content
  pub clean_says : AreExact due rows cells → value_at low (row_of rows 0) ≡ Some n → is_among due 0 low ≡ false → is_dirty n ≡ false → HasContent es (row_of rows 0) cells (low, n)
  clean_says exact there out clean = imaged_says (by_test (is_as_imaged (row_of rows 0) cells (low, n)) (sym (exact low n there out) ∙ clean))
    where
      by_test : (t : Bool) → not t ≡ false → t ≡ true
      by_test true h = refl
      by_test false h = absurd (true≢false h)

  pub says_clean : AreExact due rows cells → IsRising (row_of rows 0) → IsRising cells → value_at low (row_of rows 0) ≡ Some n → is_among due 0 low ≡ false → n.forced ≡ false → HasContent es (row_of rows 0) cells (low, n) → is_dirty n ≡ false
  says_clean exact up up_cells there out still has = exact low n there out ∙ ap not (says_imaged up up_cells there still has)

pub by_content : BinsAreDirtyByContent
by_content es base newest rows cells due low n parts up tree exact there out still = (
  clean_says es base rows cells due low n tree.know exact there out,
  says_clean es base rows cells due low n tree.know exact (parts.rising 0) up there out still,
)
