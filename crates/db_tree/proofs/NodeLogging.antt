-- Logging a node keeps that a tree fits its log.
use Rattle.std.proofs.Common.{◌≡◌, ◌≤◌, ◌++◌, ◌∷◌, [], ◌==◌, ℕ, zero, suc, List, Bool, true, false, cond, Option, None, Some, refl, ap, sym, subst, ◌∙◌, arith, eq-eqb}
use Rattle.std.proofs.lemmas.Option.{none-some}
use Rattle.je_order.specs.declared.name.Name.{Name}
use Rattle.log_entry.specs.declared.entry.Entry.{Entry}
use Rattle.record_map.specs.Cells.{value_at}
use Rattle.tree_nodes.specs.declared.node.Node.{Node}
use Rattle.tree_nodes.specs.Nodes.{NodeRow, IsOver, earlier, logged}
use Rattle.tree_nodes.specs.Levels.{row_of, AreParts, HasPutAt, HasMarkedAt}
use Rattle.db_tree.specs.Images.{Placed, entry_at}
use Rattle.db_tree.specs.Content.{NameState}
use Rattle.db_tree.specs.NodeSteps.{mark_above}
use Rattle.db_tree.specs.Trees.{IsTreeOf, IsImageOf, IsHandedOn}
use Rattle.db_tree.proofs.Logging.{logged as is_logged}
use Rattle.db_tree.proofs.Records.{over_marked, earlier_below}

-- the node above a node has its mark
pub handed_on : (old new : List NodeRow) (level : ℕ) (low : Name) (n : Node) (at : ℕ) → HasMarkedAt old new (suc level) low (mark_above n.from at) → IsHandedOn new level low n
handed_on old new level low n at m p over = (
  earlier m.e.1.from (mark_above n.from at),
  ap (λ (k : Node). k.from) (over_marked old new (suc level) low (mark_above n.from at) p m over),
  λ f is. subst (λ (k : ℕ). earlier m.e.1.from (mark_above n.from at) ≤ k) (ap (λ (o : Option ℕ). mark_above o at) is) (earlier_below m.e.1.from (mark_above n.from at)),
)

-- an entry that is appended at an LSN of its own is the one that the LSN names
pub entry_is_last : (es : Placed) (at : ℕ) (e : Entry) → entry_at es at ≡ None → entry_at (es ++ (at, e) ∷ []) at ≡ Some e
entry_is_last [] at e none = ap (λ (t : Bool). cond t (Some e) None) (eq-eqb at at refl)
entry_is_last (p ∷ es) at e none = by_test (p.0 == at) (entry_is_last es at e) none
  where
    by_test : (t : Bool) → (entry_at es at ≡ None → entry_at (es ++ (at, e) ∷ []) at ≡ Some e) → cond t (Some p.1) (entry_at es at) ≡ None → cond t (Some p.1) (entry_at (es ++ (at, e) ∷ []) at) ≡ Some e
    by_test true rest h = absurd (none-some p.1 (sym h))
    by_test false rest h = rest h

-- a level is not the one two above it
pub not_above : (level k : ℕ) → level ≡ suc k → k ≡ suc level → ⊥
not_above level k is above = absurd (omega (arith, is, above))

-- an image of a node is one where the mark was handed on
pub image_handed : (es : Placed) (old handed : List NodeRow) (held : Name → NameState) (level : ℕ) (e : Name × Node) (at : ℕ) → row_of handed level ≡ row_of old level →
    ((k : ℕ) → (k ≡ suc level → ⊥) → row_of handed k ≡ row_of old k) → IsImageOf es old held level e at → IsImageOf es handed held level e at
image_handed es old handed held zero e at same others image = record {
  reads = λ x over. image.reads x (subst (λ (row : NodeRow). IsOver row x e) same over);
  shows = λ x over. image.shows x (subst (λ (row : NodeRow). IsOver row x e) same over);
  names = λ x over. tt;
}
image_handed es old handed held (suc k) e at same others image = record {
  reads = λ x over. image.reads x (subst (λ (row : NodeRow). IsOver row x e) same over);
  shows = λ x over c lower. image.shows x (subst (λ (row : NodeRow). IsOver row x e) same over) c (subst (λ (row : NodeRow). IsOver row x c) (others k (λ (h : k ≡ suc (suc k)). absurd (omega (arith, h)))) lower);
  names = λ x over c lower. image.names x (subst (λ (row : NodeRow). IsOver row x e) same over) c (subst (λ (row : NodeRow). IsOver row x c) (others k (λ (h : k ≡ suc (suc k)). absurd (omega (arith, h)))) lower);
}

pub image_noted : (es : Placed) (base : ℕ) (newest : Name → ℕ) (old handed new : List NodeRow) (held : Name → NameState) (level : ℕ) (low : Name) (n : Node) (at : ℕ) → AreParts handed →
    row_of handed level ≡ row_of old level → ((k : ℕ) → (k ≡ suc level → ⊥) → row_of handed k ≡ row_of old k) → value_at low (row_of old level) ≡ Some n → IsHandedOn handed level low n →
    HasPutAt handed new level low (logged at n) → IsImageOf es old held level (low, n) at → IsTreeOf es base newest handed held → IsTreeOf es base newest new held
image_noted es base newest old handed new held level low n at are same others there hand put image tree =
    is_logged es base newest handed new held level low n (logged at n) at are (ap (value_at low) same ∙ there) put refl (image_handed es old handed held level (low, n) at same others image) hand tree
