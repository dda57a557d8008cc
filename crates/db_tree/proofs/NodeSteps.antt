-- How the nodes of a tree change, as far as their images go.
use Rattle.std.proofs.Common.{◌≡◌, ◌⊎◌, ℕ, List, true, false, Option, None, Some, option_map, cond, refl, ap, sym, subst, ◌∙◌, inl, inr, is_eq}
use Rattle.std.proofs.lemmas.Option.{same_Some}
use Rattle.std.specs.Prelude.{Box}
use Rattle.std.specs.Global.{Global}
use Rattle.je_order.specs.Order.{name_cmp}
use Rattle.je_order.specs.declared.name.Name.{Name}
use Rattle.record_map.specs.declared.cell.Cell.{Cell}
use Rattle.record_map.specs.declared.write.Write.{Write}
use Rattle.record_map.specs.Cells.{value_at, with_write, committed, committed_by}
use Rattle.record_map.proofs.NameLaws.{same_or_other, same_gets, other_stays}
use Rattle.tree_nodes.specs.declared.node.Node.{Node}
use Rattle.tree_nodes.specs.Nodes.{NodeRow, logged, marked}
use Rattle.tree_nodes.specs.Levels.{row_of, AreParts, HasPutAt, HasMarkedAt}
use Rattle.db_tree.specs.Content.{held_under, kept_by}
use Rattle.db_tree.specs.Images.{Placed}
use Rattle.db_tree.specs.NodeSteps.{IsSameNode, WasThere, AreSameNodes, IsNoted, written_lsn}
use Rattle.db_tree.specs.Trees.{IsTree}
use Rattle.db_tree.specs.Waiting.{is_among}
use Rattle.db_tree.proofs.ForcedLaws.{one_at, one_cases}
use Rattle.db_tree.proofs.Marking.{same_held}
use Rattle.db_tree.proofs.SplitLaws.{level_cases}
use Rattle.db_tree.proofs.WaitLaws.{put_lows}

-- ---- one node

itself : (n : Node) → IsSameNode n n
itself n = record { number = refl; last = refl; forced = refl }

-- a node is the one that was put, or one that was there
abbrev pub IsElsewhere : ℕ → Name → ℕ → Name → Type 0
IsElsewhere level low k x = (k ≡ level → ⊥) ⊎ (is_eq (name_cmp low x) ≡ false)

pub place_of : (level : ℕ) (low : Name) (k : ℕ) (x : Name) → ((level ≡ k) × (low ≡ x)) ⊎ IsElsewhere level low k x
place_of level low k x = by_case (one_cases level low k x)
  where
    by_case : ((level ≡ k) × (low ≡ x) × (is_among (one_at level low) k x ≡ true)) ⊎ ((is_among (one_at level low) k x ≡ false) × IsElsewhere level low k x) → ((level ≡ k) × (low ≡ x)) ⊎ IsElsewhere level low k x
    by_case (inl h) = inl (h.0, h.1)
    by_case (inr h) = inr h.1

pub put_elsewhere : (old new : List NodeRow) (level : ℕ) (low : Name) (n : Node) (k : ℕ) (x : Name) → HasPutAt old new level low n → IsElsewhere level low k x → value_at x (row_of new k) ≡ value_at x (row_of old k)
put_elsewhere old new level low n k x put other = by_level (level_cases k level) other
  where
    by_level : (k ≡ level) ⊎ (k ≡ level → ⊥) → IsElsewhere level low k x → value_at x (row_of new k) ≡ value_at x (row_of old k)
    by_level (inr away) h = ap (value_at x) (put.others k away)
    by_level (inl here) (inl away) = absurd (away here)
    by_level (inl here) (inr apart) =
        subst (λ (l : ℕ). value_at x (row_of new l) ≡ value_at x (row_of old l)) (sym here) (put.here x ∙ other_stays low x (Some n) (value_at x (row_of old level)) apart)

pub put_here : (old new : List NodeRow) (level : ℕ) (low : Name) (n : Node) → HasPutAt old new level low n → value_at low (row_of new level) ≡ Some n
put_here old new level low n put = put.here low ∙ same_gets low (Some n) (value_at low (row_of old level))

-- a value that is found at a place is found at the one that it is
pub moved : (rows : List NodeRow) (level : ℕ) (low : Name) (k : ℕ) (x : Name) (o : Node) → level ≡ k → low ≡ x → value_at x (row_of rows k) ≡ Some o → value_at low (row_of rows level) ≡ Some o
moved rows level low k x o at_level at_low there =
    subst (λ (i : ℕ). value_at low (row_of rows i) ≡ Some o) (sym at_level) (subst (λ (y : Name). value_at y (row_of rows k) ≡ Some o) (sym at_low) there)

-- ---- all nodes

pub nodes_stay : (rows : List NodeRow) → AreSameNodes rows rows
nodes_stay rows = record { lows = refl; each = λ level x n there. (n, there, itself n) }

-- a node was put in the place of one that it is but for its mark
pub nodes_put : (old new : List NodeRow) (level : ℕ) (low : Name) (m n : Node) → AreParts old → AreParts new → value_at low (row_of old level) ≡ Some m → HasPutAt old new level low n → IsSameNode m n → AreSameNodes old new
nodes_put old new level low m n was are there put same = record { lows = put_lows old new level low m n was are there put; each = λ k x o found. by_place k x o found (place_of level low k x) }
  where
    by_place : (k : ℕ) (x : Name) (o : Node) → value_at x (row_of new k) ≡ Some o → ((level ≡ k) × (low ≡ x)) ⊎ IsElsewhere level low k x → WasThere old k x o
    by_place k x o found (inl h) =
        let is : n ≡ o = same_Some n o (sym (put_here old new level low n put) ∙ moved new level low k x o h.0 h.1 found) in
        subst (λ (i : ℕ). WasThere old i x o) h.0 (subst (λ (y : Name). WasThere old level y o) h.1 (m, there, subst (IsSameNode m) is same))
    by_place k x o found (inr h) = (o, sym (put_elsewhere old new level low n k x put h) ∙ found, itself o)

-- the node over a name was marked
pub nodes_marked : (old new : List NodeRow) (level : ℕ) (x : Name) (from : ℕ) → AreParts old → AreParts new → HasMarkedAt old new level x from → AreSameNodes old new
nodes_marked old new level x from was are m =
    nodes_put old new level m.e.0 m.e.1 (marked from m.e.1) was are m.over.there m.put (record { number = refl; last = refl; forced = refl })

-- a node's image was noted, where its mark was handed on before
pub node_noted : (old mid new : List NodeRow) (level : ℕ) (low : Name) (m n : Node) (at : ℕ) → AreParts mid → AreParts new → AreSameNodes old mid → row_of mid level ≡ row_of old level → value_at low (row_of old level) ≡ Some m →
    n ≡ logged at m → HasPutAt mid new level low n → IsNoted old new level low at
node_noted old mid new level low m n at was are same row there is put = record {
  lows = put_lows mid new level low m n was are (ap (value_at low) row ∙ there) put ∙ same.lows;
  here = λ o found.
      (let made : o ≡ logged at m = same_Some o n (sym found ∙ put_here mid new level low n put) ∙ is in
      (m, there, record { number = ap (λ (i : Node). i.number) made; last = ap (λ (i : Node). i.last) made; forced = ap (λ (i : Node). i.forced) made }));
  others = λ k x o other found. by_place k x o other found (place_of level low k x);
}
  where
    by_place : (k : ℕ) (x : Name) (o : Node) → (k ≡ level → x ≡ low → ⊥) → value_at x (row_of new k) ≡ Some o → ((level ≡ k) × (low ≡ x)) ⊎ IsElsewhere level low k x → WasThere old k x o
    by_place k x o other found (inl h) = absurd (other (sym h.0) (sym h.1))
    by_place k x o other found (inr h) = same.each k x o (sym (put_elsewhere mid new level low n k x put h) ∙ found)

-- ---- cells

-- a cell with another change has committed what it had
pub write_held : (old new : List (Name × Cell)) (name : Name) (w : Option (Box Write Global)) →
    ((x : Name) → value_at x new ≡ cond (is_eq (name_cmp name x)) (option_map (with_write w) (value_at name old)) (value_at x old)) → (x : Name) → kept_by new x ≡ kept_by old x
write_held old new name w others x = by_name (same_or_other name x)
  where
    held : (o : Option Cell) → held_under (option_map (with_write w) o) ≡ held_under o
    held None = refl
    held (Some cell) = refl

    by_name : (name ≡ x) ⊎ (is_eq (name_cmp name x) ≡ false) → kept_by new x ≡ kept_by old x
    by_name (inr apart) = ap held_under (others x ∙ other_stays name x (option_map (with_write w) (value_at name old)) (value_at x old) apart)
    by_name (inl same) =
        subst (λ (y : Name). kept_by new y ≡ kept_by old y) same
        (ap held_under (others name ∙ same_gets name (option_map (with_write w) (value_at name old)) (value_at name old)) ∙ held (value_at name old))

pub write_kept : (es : Placed) (base : ℕ) (newest : Name → ℕ) (rows : List NodeRow) (old new : List (Name × Cell)) (name : Name) (w : Option (Box Write Global)) →
    ((x : Name) → value_at x new ≡ cond (is_eq (name_cmp name x)) (option_map (with_write w) (value_at name old)) (value_at x old)) → IsTree es base newest rows old → IsTree es base newest rows new
write_kept es base newest rows old new name w others tree = same_held es base newest rows (kept_by old) (kept_by new) (write_held old new name w others) tree

-- a cell without a change has none to commit
committed_none : (at : ℕ) (o : Option Cell) → written_lsn o ≡ None → option_map (committed at None) o ≡ o
committed_none at None none = refl
committed_none at (Some cell) none = ap Some (by_write cell.write none)
  where
    by_write : (w : Option (Box Write Global)) → option_map (λ w. w.value.at) w ≡ None → committed_by (option_map (λ w. w.value) w) at None cell ≡ cell
    by_write None none = refl
    by_write (Some w) none = absurd cc

pub none_committed : (cells : List (Name × Cell)) (name : Name) (at : ℕ) → written_lsn (value_at name cells) ≡ None →
    (last : Option ℕ) × ((x : Name) → value_at x cells ≡ cond (is_eq (name_cmp name x)) (option_map (committed at last) (value_at name cells)) (value_at x cells))
none_committed cells name at none = (None, λ x. by_name x (same_or_other name x))
  where
    by_name : (x : Name) → (name ≡ x) ⊎ (is_eq (name_cmp name x) ≡ false) → value_at x cells ≡ cond (is_eq (name_cmp name x)) (option_map (committed at None) (value_at name cells)) (value_at x cells)
    by_name x (inr apart) = sym (other_stays name x (option_map (committed at None) (value_at name cells)) (value_at x cells) apart)
    by_name x (inl same) =
        subst (λ (y : Name). value_at y cells ≡ cond (is_eq (name_cmp name y)) (option_map (committed at None) (value_at name cells)) (value_at y cells)) same
        (sym (committed_none at (value_at name cells) none) ∙ sym (same_gets name (option_map (committed at None) (value_at name cells)) (value_at name cells)))

-- nodes that stay twice
pub nodes_then : (a b c : List NodeRow) → AreSameNodes a b → AreSameNodes b c → AreSameNodes a c
nodes_then a b c first next = record {
  lows = next.lows ∙ first.lows;
  each = λ level x n there.
      let mid = next.each level x n there in
      let was = first.each level x mid.0 mid.1 in
      (was.0, was.1, record { number = mid.2.number ∙ was.2.number; last = mid.2.last ∙ was.2.last; forced = mid.2.forced ∙ was.2.forced });
}
