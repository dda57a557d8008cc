-- What the images of a tree lack is behind each redo LSN that no mark is below.
use Rattle.std.proofs.Common.{◌≡◌, ◌≤◌, ◌<◌, ◌⊎◌, ℕ, zero, suc, Some, ap, sym, ◌∙◌, inl, inr, arith}
use Rattle.je_order.specs.declared.name.Name.{Name}
use Rattle.tree_nodes.specs.declared.node.Node.{Node}
use Rattle.tree_nodes.specs.Nodes.{IsOver}
use Rattle.tree_nodes.specs.Levels.{row_of}
use Rattle.node_core.specs.declared.slot.Version.{Version}
use Rattle.db_tree.specs.Content.{lsn_held, lsn_of}
use Rattle.db_tree.specs.Images.{last_says, shown}
use Rattle.db_tree.specs.Trees.{IsBehind}
use Rattle.db_tree.specs.Laws.{TreesAreCovered}
use Rattle.db_tree.proofs.Over.{there_is}
use Rattle.db_tree.proofs.Logging.{child_is_over}
use Rattle.db_tree.proofs.Says.{says_shown}

-- a node that is behind for a name has a newer change of it behind the redo LSN
behind_redo : (base redo : ℕ) (newest : Name → ℕ) (n : Node) (x : Name) → base ≤ redo → ((f : ℕ) → n.from ≡ Some f → redo ≤ f) → IsBehind base newest n x → redo ≤ newest x
behind_redo base redo newest n x le marks behind = let high : redo ≤ behind.0 = marks behind.0 behind.1 in by_side high behind.2
  where
    by_side : redo ≤ behind.0 → (behind.0 ≤ newest x) ⊎ (behind.0 < base) → redo ≤ newest x
    by_side high (inl h) = omega arith
    by_side high (inr h) = absurd (omega arith)

pub covered : TreesAreCovered
covered es base redo newest rows held are le marks tree zero x e over = by_side (tree.leaf x e over)
  where
    by_side : (last_says es e.1.last x ≡ (held x).version) ⊎ IsBehind base newest e.1 x → (shown es 0 e.1.last x ≡ lsn_held held x) ⊎ (redo ≤ newest x)
    by_side (inl h) = inl (sym (says_shown es e.1.last x) ∙ ap (λ (v : Version). lsn_of v) h)
    by_side (inr h) = inr (behind_redo base redo newest e.1 x le (marks 0 x e over) h)
covered es base redo newest rows held are le marks tree (suc level) x e over =
    by_child (child_is_over rows level x e.0 are (there_is (row_of rows (suc level)) e.0 e.1 over.there)) (λ c lower. covered es base redo newest rows held are le marks tree level x c lower)
  where
    by_sides : (c : Name × Node) → (shown es (suc level) e.1.last x ≡ shown es level c.1.last x) ⊎ IsBehind base newest e.1 x → (shown es level c.1.last x ≡ lsn_held held x) ⊎ (redo ≤ newest x) →
        (shown es (suc level) e.1.last x ≡ lsn_held held x) ⊎ (redo ≤ newest x)
    by_sides c (inl same) (inl h) = inl (same ∙ h)
    by_sides c (inl same) (inr h) = inr h
    by_sides c (inr behind) side = inr (behind_redo base redo newest e.1 x le (marks (suc level) x e over) behind)

    by_child : (c : Name × Node) × IsOver (row_of rows level) x c → ((c : Name × Node) → IsOver (row_of rows level) x c → (shown es level c.1.last x ≡ lsn_held held x) ⊎ (redo ≤ newest x)) →
        (shown es (suc level) e.1.last x ≡ lsn_held held x) ⊎ (redo ≤ newest x)
    by_child found rest = by_sides found.0 (tree.inner level x e found.0 over found.1) (rest found.0 found.1)
