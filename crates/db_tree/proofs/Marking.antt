-- A mark, a split and a commit keep that a tree fits its log.
use Rattle.std.proofs.Common.{◌≡◌, ◌≤◌, ◌<◌, ◌⊎◌, ℕ, suc, List, Some, refl, ap, sym, subst, ◌∙◌, inl, inr, arith}
use Rattle.std.proofs.lemmas.Bool.{cases_eq}
use Rattle.je_order.specs.declared.name.Name.{Name}
use Rattle.tree_nodes.specs.declared.node.Node.{Node}
use Rattle.tree_nodes.specs.Nodes.{NodeRow, IsOver}
use Rattle.tree_nodes.specs.Levels.{row_of}
use Rattle.db_tree.specs.Content.{NameState}
use Rattle.db_tree.specs.Images.{Placed, entry_at, child_in, last_says, shown}
use Rattle.db_tree.specs.Trees.{IsTreeOf, IsBehind, IsMark, IsMarked}
use Rattle.db_tree.specs.Laws.{TreesAreSplitAndMarked, TreesAreCommitted}
use Rattle.db_tree.proofs.Over.{over_put}
use Rattle.db_tree.proofs.Says.{know_come, know_same}

-- a node over a name comes from one that was over it, has its last image, and is behind where that was
pub record Comes (base : ℕ) (newest : Name → ℕ) (row : NodeRow) (x : Name) (e : Name × Node) : Type 0 where
  pub was : Name × Node
  pub over : IsOver row x was
  pub last : e.1.last ≡ was.1.last
  pub behind : IsBehind base newest was.1 x → IsBehind base newest e.1 x
  pub marked : IsMarked was.1 → IsMarked e.1

-- a node that stays
pub comes_itself : (base : ℕ) (newest : Name → ℕ) (row : NodeRow) (x : Name) (e : Name × Node) → IsOver row x e → Comes base newest row x e
comes_itself base newest row x e over = record { was = e; over = over; last = refl; behind = λ h. h; marked = λ h. h }

-- an earlier mark is a mark
pub behind_marked : (base : ℕ) (newest : Name → ℕ) (m n : Node) (x : Name) → IsMark m n → IsBehind base newest m x → IsBehind base newest n x
behind_marked base newest m n x mark behind =
    let earlier = mark.from behind.0 behind.1 in (earlier.0, earlier.1, by_side earlier.0 earlier.2 behind.2)
  where
    by_side : (g : ℕ) → g ≤ behind.0 → (behind.0 ≤ newest x) ⊎ (behind.0 < base) → (g ≤ newest x) ⊎ (g < base)
    by_side g le (inl h) = inl (omega arith)
    by_side g le (inr h) = inr (omega arith)

-- a tree of nodes that come from those of a tree of the log
pub come : (es : Placed) (base : ℕ) (newest : Name → ℕ) (old new : List NodeRow) (held : Name → NameState) →
    ((level : ℕ) (x : Name) (e : Name × Node) → IsOver (row_of new level) x e → Comes base newest (row_of old level) x e) →
    IsTreeOf es base newest old held → IsTreeOf es base newest new held
come es base newest old new held from tree = record {
  reads = λ level x e at over is. let c = from level x e over in tree.reads level x c.was at c.over (sym c.last ∙ is);
  leaf = λ x e over. at_leaf x e (from 0 x e over);
  inner = λ level x e c upper lower. at_inner level x e c (from (suc level) x e upper) (from level x c lower);
  names = λ level x e c at upper lower is. at_names level x e c at is (from (suc level) x e upper) (from level x c lower);
  know = know_come es base old new held (λ x e over. let c = from 0 x e over in (c.was, c.over, c.last)) tree.know;
}
  where
    at_leaf : (x : Name) (e : Name × Node) → Comes base newest (row_of old 0) x e → (last_says es e.1.last x ≡ (held x).version) ⊎ IsBehind base newest e.1 x
    at_leaf x e c = by_side (tree.leaf x c.was c.over)
      where
        by_side : (last_says es c.was.1.last x ≡ (held x).version) ⊎ IsBehind base newest c.was.1 x → (last_says es e.1.last x ≡ (held x).version) ⊎ IsBehind base newest e.1 x
        by_side (inl h) = inl (ap (λ last. last_says es last x) c.last ∙ h)
        by_side (inr h) = inr (c.behind h)

    at_inner : (level : ℕ) (x : Name) (e c : Name × Node) → Comes base newest (row_of old (suc level)) x e → Comes base newest (row_of old level) x c →
        (shown es (suc level) e.1.last x ≡ shown es level c.1.last x) ⊎ IsBehind base newest e.1 x
    at_inner level x e c upper lower = by_side (tree.inner level x upper.was lower.was upper.over lower.over)
      where
        by_side : (shown es (suc level) upper.was.1.last x ≡ shown es level lower.was.1.last x) ⊎ IsBehind base newest upper.was.1 x →
            (shown es (suc level) e.1.last x ≡ shown es level c.1.last x) ⊎ IsBehind base newest e.1 x
        by_side (inl h) = inl (ap (λ last. shown es (suc level) last x) upper.last ∙ h ∙ sym (ap (λ last. shown es level last x) lower.last))
        by_side (inr h) = inr (upper.behind h)

    at_names : (level : ℕ) (x : Name) (e c : Name × Node) (at : ℕ) → e.1.last ≡ Some at → Comes base newest (row_of old (suc level)) x e → Comes base newest (row_of old level) x c →
        (child_in (entry_at es at) x ≡ c.1.last) ⊎ IsMarked e.1
    at_names level x e c at is upper lower = by_side (tree.names level x upper.was lower.was at upper.over lower.over (sym upper.last ∙ is))
      where
        by_side : (child_in (entry_at es at) x ≡ lower.was.1.last) ⊎ IsMarked upper.was.1 → (child_in (entry_at es at) x ≡ c.1.last) ⊎ IsMarked e.1
        by_side (inl h) = inl (h ∙ sym lower.last)
        by_side (inr h) = inr (upper.marked h)

pub marked_or_split : TreesAreSplitAndMarked
marked_or_split es base newest old new held level low at m n under has mark tree =
    come es base newest old new held (λ l x e over. comes l x e over (cases_eq l level)) tree
  where
    at_level : (x : Name) (e : Name × Node) → ((e.1 ≡ n) × IsOver (row_of old level) x (low, m)) ⊎ IsOver (row_of old level) x e → Comes base newest (row_of old level) x e
    at_level x e (inl is) = record {
      was = (low, m);
      over = is.1;
      last = ap (λ (k : Node). k.last) is.0 ∙ mark.last;
      behind = λ h. subst (λ (k : Node). IsBehind base newest k x) (sym is.0) (behind_marked base newest m n x mark h);
      marked = λ h. subst (λ (k : Node). IsMarked k) (sym is.0) (let g = mark.from h.0 h.1 in (g.0, g.1));
    }
    at_level x e (inr over) = comes_itself base newest (row_of old level) x e over

    comes : (l : ℕ) (x : Name) (e : Name × Node) → IsOver (row_of new l) x e → (l ≡ level) ⊎ (l ≡ level → ⊥) → Comes base newest (row_of old l) x e
    comes l x e over (inl same) =
        subst (λ k. Comes base newest (row_of old k) x e) (sym same)
        (at_level x e (over_put (row_of old level) (row_of new level) at low x m n e has.here under (subst (λ k. IsOver (row_of new k) x e) same over)))
    comes l x e over (inr other) = comes_itself base newest (row_of old l) x e (subst (λ (row : NodeRow). IsOver row x e) (has.others l other) over)

pub committed : TreesAreCommitted
committed es base newest rows held next changes know tree = record {
  reads = tree.reads;
  leaf = λ x e over. by_side x e (tree.leaf x e over) (changes x e over);
  inner = tree.inner;
  names = tree.names;
  know = know;
}
  where
    by_side : (x : Name) (e : Name × Node) → (last_says es e.1.last x ≡ (held x).version) ⊎ IsBehind base newest e.1 x → ((next x).version ≡ (held x).version) ⊎ IsBehind base newest e.1 x →
        (last_says es e.1.last x ≡ (next x).version) ⊎ IsBehind base newest e.1 x
    by_side x e (inl h) (inl same) = inl (h ∙ sym same)
    by_side x e (inl h) (inr behind) = inr behind
    by_side x e (inr behind) change = inr behind

-- what is held stays
pub same_held : (es : Placed) (base : ℕ) (newest : Name → ℕ) (rows : List NodeRow) (held next : Name → NameState) → ((x : Name) → next x ≡ held x) → IsTreeOf es base newest rows held → IsTreeOf es base newest rows next
same_held es base newest rows held next same tree =
    committed es base newest rows held next (λ x e over. inl (ap (λ (h : NameState). h.version) (same x))) (know_same es base rows held next same tree.know) tree
