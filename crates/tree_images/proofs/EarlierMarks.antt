-- Trees whose nodes have earlier marks.
use Rattle.std.proofs.Common.{◌≤◌, ◌<◌, ◌⊎◌, ℕ, List, inl, inr, arith}
use Rattle.je_order.specs.declared.name.Name.{Name}
use Rattle.tree_nodes.specs.declared.node.Node.{Node}
use Rattle.tree_nodes.specs.Nodes.{NodeRow, IsOver}
use Rattle.tree_nodes.specs.Levels.{row_of}
use Rattle.db_tree.specs.NodeSteps.{WasThere}
use Rattle.db_tree.specs.Trees.{IsBehind, IsMark}
use Rattle.db_tree.proofs.Marking.{Comes, come}
use Rattle.tree_images.specs.NodeLaws.{AreMarkedEarlier, EarlierMarksKeepTrees}
use Rattle.tree_images.proofs.Ordered.{there_stays}

-- the node over a name was over it, perhaps with a later mark
record WasOver (old : List NodeRow) (level : ℕ) (x : Name) (e : Name × Node) : Type 0 where
  node : Node
  over : IsOver (row_of old level) x (e.0, node)
  mark : IsMark node e.1

was_over : (old new : List NodeRow) → AreMarkedEarlier old new → (level : ℕ) (x : Name) (e : Name × Node) → IsOver (row_of new level) x e → WasOver old level x e
was_over old new earlier level x e over =
    let w : WasThere old level e.0 e.1 = earlier.same.each level e.0 e.1 over.there in
    record {
      node = w.0;
      over = record { there = w.1; below = over.below; most = λ q some up. over.most q (there_stays old new level q earlier.same.lows some) up };
      mark = earlier.marks level e.0 w.0 e.1 w.1 over.there;
    }

behind_earlier : (base : ℕ) (newest : Name → ℕ) (m n : Node) (x : Name) → IsMark m n → IsBehind base newest m x → IsBehind base newest n x
behind_earlier base newest m n x mark behind = let from = mark.from behind.0 behind.1 in (from.0, from.1, by_side from.0 from.2 behind.2)
  where
    by_side : (g : ℕ) → g ≤ behind.0 → (behind.0 ≤ newest x) ⊎ (behind.0 < base) → (g ≤ newest x) ⊎ (g < base)
    by_side g le (inl h) = inl (omega (arith, le, h))
    by_side g le (inr h) = inr (omega (arith, le, h))

pub earlier_keep : EarlierMarksKeepTrees
earlier_keep es base newest old new held earlier tree = come es base newest old new held (λ level x e over. comes level x e (was_over old new earlier level x e over)) tree
  where
    comes : (level : ℕ) (x : Name) (e : Name × Node) → WasOver old level x e → Comes base newest (row_of old level) x e
    comes level x e w = record {
      was = (e.0, w.node);
      over = w.over;
      last = w.mark.last;
      behind = λ h. behind_earlier base newest w.node e.1 x w.mark h;
      marked = λ h. (let g = w.mark.from h.0 h.1 in (g.0, g.1));
    }
