-- A node that was logged waits no more.
use Rattle.std.proofs.Common.{◌≡◌, ◌≤◌, ℕ, List, Option, None, Some, false, length, ap, sym, subst, ◌∙◌}
use Rattle.je_order.specs.declared.name.Name.{Name}
use Rattle.record_map.specs.Cells.{value_at}
use Rattle.record_map.proofs.NameLaws.{same_gets}
use Rattle.tree_nodes.specs.declared.node.Node.{Node}
use Rattle.tree_nodes.specs.Nodes.{NodeRow}
use Rattle.tree_nodes.specs.Levels.{row_of, AreParts, HasPutAt}
use Rattle.tree_nodes.specs.Lows.{lows_of}
use Rattle.db_tree.specs.Shapes.{AreAlike}
use Rattle.db_tree.specs.Waiting.{waiting_of, still_waiting, count_lows}
use Rattle.db_tree.proofs.FewSplits.{still_less}
use Rattle.db_tree.proofs.ForcedLaws.{one_at, clear_waiting, put_waiting, force_past, force_none}
use Rattle.db_tree.proofs.WaitLaws.{put_lows}

there_still : (old mid : List NodeRow) (level : ℕ) (low : Name) (m : Node) → row_of mid level ≡ row_of old level → value_at low (row_of old level) ≡ Some m → value_at low (row_of mid level) ≡ Some m
there_still old mid level low m row there = ap (value_at low) row ∙ there

pub noted_lows : (old mid new : List NodeRow) (level : ℕ) (low : Name) (m n : Node) → AreParts mid → AreParts new → AreAlike old mid → row_of mid level ≡ row_of old level → value_at low (row_of old level) ≡ Some m →
    HasPutAt mid new level low n → lows_of new ≡ lows_of old
noted_lows old mid new level low m n was are alike row there put = put_lows mid new level low m n was are (there_still old mid level low m row there) put ∙ alike.lows

pub noted_waits : (old mid new : List NodeRow) (level : ℕ) (low : Name) (m n : Node) → AreParts mid → AreParts new → AreAlike old mid → row_of mid level ≡ row_of old level → value_at low (row_of old level) ≡ Some m →
    HasPutAt mid new level low n → n.forced ≡ false → waiting_of new ≡ still_waiting (one_at level low) 0 (waiting_of old)
noted_waits old mid new level low m n was are alike row there put quiet =
    put_waiting mid new level low m n was are (there_still old mid level low m row there) put quiet ∙ ap (still_waiting (one_at level low) 0) alike.waits

pub few_still : (old new : List NodeRow) (level : ℕ) (low : Name) → waiting_of new ≡ still_waiting (one_at level low) 0 (waiting_of old) → count_lows (waiting_of new) ≤ count_lows (waiting_of old)
few_still old new level low is = subst (λ (l : List (List Name)). count_lows l ≤ count_lows (waiting_of old)) (sym is) (still_less (one_at level low) 0 (waiting_of old))

pub past_waits : (rows : List NodeRow) (level : ℕ) (low : Name) → AreParts rows → length rows ≤ level → waiting_of rows ≡ still_waiting (one_at level low) 0 (waiting_of rows)
past_waits rows level low are past = clear_waiting (one_at level low) rows rows (force_past false rows level low are past)

pub none_waits : (rows : List NodeRow) (level : ℕ) (low : Name) → AreParts rows → value_at low (row_of rows level) ≡ None → waiting_of rows ≡ still_waiting (one_at level low) 0 (waiting_of rows)
none_waits rows level low are none = clear_waiting (one_at level low) rows rows (force_none false rows level low are none)

abbrev from_in : Option Node → Option ℕ
from_in None = None
from_in (Some n) = n.from

-- a node that was put without a mark has none
pub cleared : (old new : List NodeRow) (level : ℕ) (low : Name) (put n : Node) → HasPutAt old new level low put → put.from ≡ None → value_at low (row_of new level) ≡ Some n → n.from ≡ None
cleared old new level low put n has none there =
    ap from_in (sym there ∙ has.here low ∙ same_gets low (Some put) (value_at low (row_of old level))) ∙ none
