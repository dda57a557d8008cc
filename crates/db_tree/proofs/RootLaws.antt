-- A root that is marked is put above the top.
use Rattle.std.proofs.Common.{◌≡◌, ◌<◌, ◌≤◌, ◌⊎◌, ℕ, zero, suc, List, [], Bool, true, false, cond, Option, None, Some, length, refl, ap, sym, subst, ◌∙◌, inl, inr, arith, is_eq}
use Rattle.std.proofs.lemmas.Bool.{cases_order}
use Rattle.std.proofs.lemmas.Option.{none-some, same_Some}
use Rattle.std.proofs.lemmas.List.{get_or_past}
use Rattle.je_order.specs.Order.{name_cmp}
use Rattle.je_order.specs.declared.name.Name.{Name}
use Rattle.record_map.specs.Cells.{value_at}
use Rattle.tree_nodes.specs.declared.node.Node.{Node}
use Rattle.tree_nodes.specs.Nodes.{NodeRow, HasPut, least, IsOver}
use Rattle.tree_nodes.specs.Levels.{row_of, HasRaised}
use Rattle.record_map.specs.declared.cell.Cell.{Cell}
use Rattle.db_tree.specs.Content.{NameState, kept_by, shown_held}
use Rattle.db_tree.specs.Images.{Placed, entry_at, child_in, last_says, shown, version_imaged, IsRead}
use Rattle.db_tree.specs.Trees.{IsTree, IsTreeOf, IsBehind, IsMarked}

pub root_put : (es : Placed) (base : ℕ) (newest : Name → ℕ) (old new : List NodeRow) (held : Name → NameState) (root : Node) (mark : ℕ) →
    HasRaised old new root → root.last ≡ None → root.from ≡ Some mark → ((x : Name) → (mark ≤ newest x) ⊎ (mark < base)) → IsTreeOf es base newest old held → IsTreeOf es base newest new held
root_put es base newest old new held root mark has last from behind tree = record {
  reads = λ l x e lsn over is. at_reads l x e lsn is (kind l x e over);
  leaf = λ x e over. at_leaf x e (kind 0 x e over);
  inner = λ l x e c upper lower. at_inner l x e c (kind (suc l) x e upper) (kind l x c lower);
  names = λ l x e c lsn upper lower is. at_names l x e c lsn is (kind (suc l) x e upper) (kind l x c lower);
  know = record { shown = λ x e lsn over is. at_shown x e lsn is (kind 0 x e over); unset = tree.know.unset; touched = tree.know.touched };
}
  where
    is_root : (x : Name) (e : Name × Node) → IsOver (row_of new (length old)) x e → e.1 ≡ root
    is_root x e over = by_test (is_eq (name_cmp least e.0)) (sym (has.top e.0) ∙ over.there)
      where
        by_test : (t : Bool) → cond t (Some root) None ≡ Some e.1 → e.1 ≡ root
        by_test true h = sym (same_Some root e.1 h)
        by_test false h = absurd (none-some e.1 h)

    kind : (l : ℕ) (x : Name) (e : Name × Node) → IsOver (row_of new l) x e → ((l ≡ length old) × (e.1 ≡ root)) ⊎ ((l < length old) × IsOver (row_of old l) x e)
    kind l x e over = by_order (cases_order l (length old))
      where
        by_order : (l ≡ length old) ⊎ ((l < length old) ⊎ (length old < l)) → ((l ≡ length old) × (e.1 ≡ root)) ⊎ ((l < length old) × IsOver (row_of old l) x e)
        by_order (inl same) = inl (same, is_root x e (subst (λ k. IsOver (row_of new k) x e) same over))
        by_order (inr (inl less)) = inr (less, subst (λ (row : NodeRow). IsOver row x e) (has.below l less) over)
        by_order (inr (inr more)) =
            let high : length new ≤ l = subst (λ k. k ≤ l) (sym has.height) (omega arith) in
            absurd (none-some e.1 (subst (λ (row : NodeRow). value_at e.0 row ≡ Some e.1) (get_or_past new l [] high) over.there))

    marked : (x : Name) (e : Name × Node) → e.1 ≡ root → IsBehind base newest e.1 x
    marked x e is = (mark, ap (λ (k : Node). k.from) is ∙ from, behind x)

    at_reads : (l : ℕ) (x : Name) (e : Name × Node) (lsn : ℕ) → e.1.last ≡ Some lsn → ((l ≡ length old) × (e.1 ≡ root)) ⊎ ((l < length old) × IsOver (row_of old l) x e) → IsRead es l lsn x
    at_reads l x e lsn is (inl new_) = absurd (none-some lsn (sym (ap (λ (k : Node). k.last) new_.1 ∙ last) ∙ is))
    at_reads l x e lsn is (inr over) = tree.reads l x e lsn over.1 is

    at_leaf : (x : Name) (e : Name × Node) → ((0 ≡ length old) × (e.1 ≡ root)) ⊎ ((0 < length old) × IsOver (row_of old 0) x e) → (last_says es e.1.last x ≡ (held x).version) ⊎ IsBehind base newest e.1 x
    at_leaf x e (inl new_) = inr (marked x e new_.1)
    at_leaf x e (inr over) = tree.leaf x e over.1

    at_shown : (x : Name) (e : Name × Node) (lsn : ℕ) → e.1.last ≡ Some lsn → ((0 ≡ length old) × (e.1 ≡ root)) ⊎ ((0 < length old) × IsOver (row_of old 0) x e) → version_imaged (entry_at es lsn) x ≡ shown_held lsn (held x)
    at_shown x e lsn is (inl new_) = absurd (none-some lsn (sym (ap (λ (k : Node). k.last) new_.1 ∙ last) ∙ is))
    at_shown x e lsn is (inr over) = tree.know.shown x e lsn over.1 is

    at_inner : (l : ℕ) (x : Name) (e c : Name × Node) → ((suc l ≡ length old) × (e.1 ≡ root)) ⊎ ((suc l < length old) × IsOver (row_of old (suc l)) x e) →
        ((l ≡ length old) × (c.1 ≡ root)) ⊎ ((l < length old) × IsOver (row_of old l) x c) → (shown es (suc l) e.1.last x ≡ shown es l c.1.last x) ⊎ IsBehind base newest e.1 x
    at_inner l x e c (inl upper) lower = inr (marked x e upper.1)
    at_inner l x e c (inr upper) (inl lower) = let first : suc l < length old = upper.0 in let second : l ≡ length old = lower.0 in absurd (omega arith)
    at_inner l x e c (inr upper) (inr lower) = tree.inner l x e c upper.1 lower.1

    at_names : (l : ℕ) (x : Name) (e c : Name × Node) (lsn : ℕ) → e.1.last ≡ Some lsn → ((suc l ≡ length old) × (e.1 ≡ root)) ⊎ ((suc l < length old) × IsOver (row_of old (suc l)) x e) →
        ((l ≡ length old) × (c.1 ≡ root)) ⊎ ((l < length old) × IsOver (row_of old l) x c) → (child_in (entry_at es lsn) x ≡ c.1.last) ⊎ IsMarked e.1
    at_names l x e c lsn is (inl upper) lower = inr (mark, ap (λ (k : Node). k.from) upper.1 ∙ from)
    at_names l x e c lsn is (inr upper) (inl lower) = let first : suc l < length old = upper.0 in let second : l ≡ length old = lower.0 in absurd (omega arith)
    at_names l x e c lsn is (inr upper) (inr lower) = tree.names l x e c lsn upper.1 lower.1 is

-- the tree of one node without an image, which has no record, fits each log
pub first_fits : (es : Placed) (base : ℕ) (newest : Name → ℕ) (rows : List NodeRow) (root : Node) (cells : List (Name × Cell)) → length rows ≡ 1 → HasPut [] (row_of rows 0) least root → root.last ≡ None → cells ≡ [] → IsTree es base newest rows cells
first_fits es base newest rows root cells height put last empty = record {
  reads = λ l x e lsn over is. absurd (none-some lsn (sym (no_image x e (kind l x e over)) ∙ is));
  leaf = λ x e over. inl (ap (λ (o : Option ℕ). last_says es o x) (no_image x e (kind 0 x e over)) ∙ sym (ap (λ (l : List (Name × Cell)). (kept_by l x).version) empty));
  inner = λ l x e c upper lower. none l (kind (suc l) x e upper).0;
  names = λ l x e c lsn upper lower is. none l (kind (suc l) x e upper).0;
  know = record {
    shown = λ x e lsn over is. absurd (none-some lsn (sym (no_image x e (kind 0 x e over)) ∙ is));
    unset = λ x is. ap (λ (l : List (Name × Cell)). kept_by l x) empty;
    touched = λ x next low all. subst (λ (l : List (Name × Cell)). (kept_by l x).touched ≤ next) (sym empty) (omega arith);
  };
}
  where
    none : {A : Type 0} (l : ℕ) → suc l ≡ 0 → A
    none l is = absurd (omega (arith, is))

    is_root : (x : Name) (e : Name × Node) → IsOver (row_of rows 0) x e → e.1 ≡ root
    is_root x e over = by_test (is_eq (name_cmp least e.0)) (sym (put e.0) ∙ over.there)
      where
        by_test : (t : Bool) → cond t (Some root) None ≡ Some e.1 → e.1 ≡ root
        by_test true h = sym (same_Some root e.1 h)
        by_test false h = absurd (none-some e.1 h)

    kind : (l : ℕ) (x : Name) (e : Name × Node) → IsOver (row_of rows l) x e → (l ≡ 0) × (e.1 ≡ root)
    kind zero x e over = (refl, is_root x e over)
    kind (suc l) x e over =
        let high : length rows ≤ suc l = omega (arith, height) in
        absurd (none-some e.1 (subst (λ (row : NodeRow). value_at e.0 row ≡ Some e.1) (get_or_past rows (suc l) [] high) over.there))

    no_image : {l : ℕ} (x : Name) (e : Name × Node) → (l ≡ 0) × (e.1 ≡ root) → e.1.last ≡ None
    no_image x e is = ap (λ (n : Node). n.last) is.1 ∙ last
