-- The marks that are left where no noted node is dirty.
use Rattle.std.proofs.Common.{◌≡◌, ◌==◌, ◌&&◌, ◌||◌, ℕ, zero, suc, Bool, true, false, not, cond, List, [], ◌∷◌, Option, Some, is_some, refl, ap, sym, subst, ◌∙◌, eq-eqb}
use Rattle.std.specs.Prelude.{IfSome}
use Rattle.std.specs.List.{AllByRecursion, list_any, sum_by}
use Rattle.std.proofs.lemmas.Bool.{true≢false, eqb-true}
use Rattle.std.proofs.lemmas.List.Folds.{sum_by-zero}
use Rattle.je_order.specs.declared.name.Name.{Name}
use Rattle.log_replay.proofs.ListLaws.{all_true}
use Rattle.log_trees.specs.Placed.{Placed}
use Rattle.record_map.specs.Cells.{value_at}
use Rattle.tree_nodes.specs.declared.node.Node.{Node}
use Rattle.tree_nodes.specs.Nodes.{NodeRow, is_due}
use Rattle.tree_nodes.specs.Levels.{row_of}
use Rattle.tree_nodes.specs.Noted.{count_all_due, count_due}
use Rattle.db_tree.specs.declared.tree.DbTree.{DbTree}
use Rattle.tree_images.specs.Forest.{ForestFits}
use Rattle.tree_images.specs.Notes.{has_begun, is_late}
use Rattle.tree_images.proofs.NotedRoots.{any_at}
use Rattle.dirty_nodes.specs.Forest.{IsMarkIn, left_in}
use Rattle.dirty_nodes.proofs.Forests.{each_get}
use Rattle.in_tree.specs.Forest.{Forest}
use Rattle.in_tree.specs.Growing.{trees_at}

-- ---- nothing is counted

-- each part of a sum that comes to nothing is nothing
none_each : {A : Type 0} (f : A → ℕ) (xs : List A) → sum_by f xs ≡ 0 → AllByRecursion (λ x. (f x == 0) ≡ true) xs
none_each f xs none = all_true (λ x. f x == 0) xs (sym (sum_by-zero f xs) ∙ eq-eqb (sum_by f xs) 0 none)

-- no level of a tree has a node that is due
none_in_row : (rows : List NodeRow) (level : ℕ) → AllByRecursion (λ row. (count_due row == 0) ≡ true) rows → count_due (row_of rows level) ≡ 0
none_in_row [] level all = refl
none_in_row (row ∷ rows) zero all = eqb-true (count_due row) 0 all.0
none_in_row (row ∷ rows) (suc level) all = none_in_row rows level all.1

no_due : (row : NodeRow) → AllByRecursion (λ (e : Name × Node). (cond (is_due e.1) 1 0 == 0) ≡ true) row → list_any (λ (e : Name × Node). is_due e.1) row ≡ true → ⊥
no_due [] all some = absurd (true≢false (sym some))
no_due (e ∷ row) all some = by_test (is_due e.1) all.0 some (no_due row all.1)
  where
    by_test : (b : Bool) → (cond b 1 0 == 0) ≡ true → (b || list_any (λ (e : Name × Node). is_due e.1) row) ≡ true → (list_any (λ (e : Name × Node). is_due e.1) row ≡ true → ⊥) → ⊥
    by_test true none h rest = absurd (true≢false (sym none))
    by_test false none h rest = rest h

-- a node that is there is not due
none_at : (row : NodeRow) (low : Name) (n : Node) → count_due row ≡ 0 → value_at low row ≡ Some n → is_due n ≡ false
none_at row low n none there = by_test (is_due n) refl
  where
    no_one : AllByRecursion (λ (e : Name × Node). (cond (is_due e.1) 1 0 == 0) ≡ true) row
    no_one = none_each (λ (e : Name × Node). cond (is_due e.1) 1 0) row none

    by_test : (b : Bool) → is_due n ≡ b → is_due n ≡ false
    by_test false is = is
    by_test true is = absurd (no_due row no_one (any_at (λ e. is_due e.1) row low n there is))

not_noted : (n : Node) (lsn : ℕ) → n.from ≡ Some lsn → is_due n ≡ false → n.noted ≡ false
not_noted n lsn from none = by_noted n.noted refl
  where
    dirty : (n.forced || not (is_some n.last) || is_some n.from) ≡ true
    dirty = ap (λ (o : Option ℕ). n.forced || not (is_some n.last) || is_some o) from ∙ or_true (n.forced || not (is_some n.last))
      where
        or_true : (b : Bool) → (b || true) ≡ true
        or_true true = refl
        or_true false = refl

    by_noted : (b : Bool) → n.noted ≡ b → n.noted ≡ false
    by_noted false is = is
    by_noted true is = absurd (true≢false (sym dirty ∙ sym (ap (λ (b : Bool). b && (n.forced || not (is_some n.last) || is_some n.from)) is) ∙ none))

-- ---- marks

-- where no noted node is dirty, each mark is late: it is not before a checkpoint's beginning, nor before all changes of the transactions that
-- committed behind it
pub marks_are_late : (forest : Forest) (es : List Placed) (base last lsn start : ℕ) → ForestFits es base last (trees_at forest) → left_in forest ≡ 0 → IsMarkIn forest lsn → has_begun es base start ≡ true → is_late es base start lsn ≡ true
marks_are_late forest es base last lsn start fits none m begun =
    subst (λ (o : Option ℕ). IfSome o (λ lsn. is_late es base start lsn ≡ true)) m.mark.from
    ((fits.notes m.db m.tree m.there start begun).marks m.mark.level m.mark.low m.mark.node m.mark.there (not_noted m.mark.node lsn m.mark.from not_due))
  where
    tree_none : count_all_due m.tree.levels ≡ 0
    tree_none = eqb-true (count_all_due m.tree.levels) 0 (each_get (λ e. (count_all_due e.1.levels == 0) ≡ true) forest (none_each (λ (e : ℕ × DbTree). count_all_due e.1.levels) forest.entries none) m.db m.tree m.there)

    not_due : is_due m.mark.node ≡ false
    not_due = none_at (row_of m.tree.levels m.mark.level) m.mark.low m.mark.node (none_in_row m.tree.levels m.mark.level (none_each count_due m.tree.levels tree_none)) m.mark.there
