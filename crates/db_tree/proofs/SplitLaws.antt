-- A split is a copy, and an IN's image has its children's slots.
use Rattle.std.proofs.Common.{◌≡◌, ◌++◌, ◌∷◌, [], ℕ, suc, List, Option, None, Some, map, refl, ap, ap₂, sym, subst, ◌∙◌, arith, ◌⊎◌, inl, inr, IsSome, false, is_eq}
use Rattle.je_order.specs.declared.name.Name.{Name}
use Rattle.je_order.specs.Edges.Edge.{At}
use Rattle.log_entry.specs.declared.child_slot.ChildSlot.{ChildSlot}
use Rattle.log_entry.specs.declared.entry.Entry.TheVariants.{In}
use Rattle.node_core.specs.declared.slot.Slot.{Slot}
use Rattle.std.proofs.lemmas.Bool.{cases_order}
use Rattle.je_order.specs.Order.{name_cmp}
use Rattle.record_map.specs.Cells.{value_at, between_edges, upper_edge}
use Rattle.record_map.proofs.NameLaws.{same_or_other, same_gets, other_stays}
use Rattle.tree_nodes.specs.declared.node.Node.{Node}
use Rattle.tree_nodes.specs.Nodes.{NodeRow, IsOver, low_behind}
use Rattle.tree_nodes.specs.Levels.{row_of, slot_of, version_of, HasPutAt, HasTakenAt}
use Rattle.db_tree.specs.Content.{child_slot_for, child_slots, lsn_of, in_image}
use Rattle.db_tree.specs.Splitting.{children_in, split_off, AreSameByName}
use Rattle.db_tree.specs.Laws.{TreesAreByName}
use Rattle.db_tree.specs.Trees.{IsMark}
use Rattle.db_tree.proofs.Says.{know_come}

-- what is split off has the image and the mark of what it was part of
pub split_is_mark : (node : Node) (number slots : ℕ) → IsMark node (split_off number slots node)
split_is_mark node number slots = record { last = refl; from = λ f is. (f, is, omega arith) }

version_back : (o : Option ℕ) → lsn_of (version_of o) ≡ o
version_back None = refl
version_back (Some lsn) = refl

-- the slots that children make show their images
pub children_of : (row : NodeRow) → children_in (map slot_of row) ≡ child_slots row
children_of [] = refl
children_of (e ∷ row) = ap₂ (λ (o : Option ℕ) (l : List ChildSlot). child_slot_for e.0 o ++ l) (version_back e.1.last) (children_of row)

-- the image that is made of them
pub image_is : (db number of_level level k : ℕ) (low : Name) (high : Option Name) (rows : List NodeRow) (slots : List Slot) (children : List ChildSlot) → level ≡ suc k → high ≡ low_behind low (row_of rows level) →
    slots ≡ map slot_of (between_edges (At low) (upper_edge high) (row_of rows k)) → children ≡ children_in slots → In db number of_level children ≡ in_image db number of_level low (row_of rows level) (row_of rows k)
image_is db number of_level level k low high rows slots children is at made are =
    ap (In db number of_level)
    (are
    ∙ ap children_in made
    ∙ children_of (between_edges (At low) (upper_edge high) (row_of rows k))
    ∙ ap (λ (o : Option Name). child_slots (between_edges (At low) (upper_edge o) (row_of rows k))) at)

-- ---- a split that is taken back

over_same : (old new : NodeRow) (x : Name) (e : Name × Node) → ((q : Name) → value_at q new ≡ value_at q old) → IsOver new x e → IsOver old x e
over_same old new x e same over = record {
  there = sym (same e.0) ∙ over.there;
  below = over.below;
  most = λ q there up. over.most q (subst IsSome (sym (same q)) there) up;
}

pub by_name : TreesAreByName
by_name es base newest old new held same tree = record {
  reads = λ level x e at over is. tree.reads level x e at (over_same (row_of old level) (row_of new level) x e (same level) over) is;
  leaf = λ x e over. tree.leaf x e (over_same (row_of old 0) (row_of new 0) x e (same 0) over);
  inner = λ level x e c over lower. tree.inner level x e c (over_same (row_of old (suc level)) (row_of new (suc level)) x e (same (suc level)) over) (over_same (row_of old level) (row_of new level) x c (same level) lower);
  names = λ level x e c at over lower is.
      tree.names level x e c at (over_same (row_of old (suc level)) (row_of new (suc level)) x e (same (suc level)) over) (over_same (row_of old level) (row_of new level) x c (same level) lower) is;
  know = know_come es base old new held (λ x e over. (e, over_same (row_of old 0) (row_of new 0) x e (same 0) over, refl)) tree.know;
}

pub level_cases : (k level : ℕ) → (k ≡ level) ⊎ (k ≡ level → ⊥)
level_cases k level =
    elim (cases_order k level) [
      | inl same ↦ inl same
      | inr other ↦ elim other [
        | inl less ↦ inr (λ (h : k ≡ level). absurd (omega (arith, less, h)))
        | inr more ↦ inr (λ (h : k ≡ level). absurd (omega (arith, more, h)))
      ]
    ]

-- a node that was put in was taken out again
pub back_by_name : (before mid new : List NodeRow) (level : ℕ) (low : Name) (node : Node) → value_at low (row_of before level) ≡ None → HasPutAt before mid level low node → HasTakenAt mid new level low → AreSameByName before new
back_by_name before mid new level low node free put taken k x = by_level (level_cases k level)
  where
    here : (x : Name) → (low ≡ x) ⊎ (is_eq (name_cmp low x) ≡ false) → value_at x (row_of new level) ≡ value_at x (row_of before level)
    here x (inl same) =
        subst (λ (y : Name). value_at y (row_of new level) ≡ value_at y (row_of before level)) same
        (taken.here low ∙ same_gets low None (value_at low (row_of mid level)) ∙ sym free)
    here x (inr apart) =
        taken.here x
        ∙ other_stays low x None (value_at x (row_of mid level)) apart
        ∙ put.here x
        ∙ other_stays low x (Some node) (value_at x (row_of before level)) apart

    by_level : (k ≡ level) ⊎ (k ≡ level → ⊥) → value_at x (row_of new k) ≡ value_at x (row_of before k)
    by_level (inl same) = subst (λ (l : ℕ). value_at x (row_of new l) ≡ value_at x (row_of before l)) (sym same) (here x (same_or_other low x))
    by_level (inr apart) = ap (value_at x) (taken.others k apart ∙ put.others k apart)
