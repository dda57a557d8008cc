-- A BIN that has its last image's content needs no mark.
use Rattle.std.proofs.Common.{◌≡◌, ◌⊎◌, ◌&&◌, not, ℕ, suc, Bool, true, false, cond, List, [], ◌∷◌, Option, None, Some, is_some, refl, ap, sym, subst, ◌∙◌, inl, inr, arith}
use Rattle.std.specs.Prelude.{nat_lt}
use Rattle.std.specs.List.{list_all}
use Rattle.std.specs.BTreeMap.{is_at}
use Rattle.std.proofs.lemmas.Bool.{cases_eq, eq-eqb, eqb-true, true≢false}
use Rattle.std.proofs.lemmas.Option.{none-some, same_Some}
use Rattle.je_order.specs.Order.{name_cmp}
use Rattle.je_order.specs.Edges.{is_between}
use Rattle.je_order.specs.Edges.Edge.{At}
use Rattle.je_order.specs.declared.name.Name.{Name}
use Rattle.node_core.specs.declared.slot.Version.{Version}
use Rattle.node_core.specs.declared.slot.Version.TheVariants.{There, Deleted, Unset}
use Rattle.record_map.specs.declared.cell.Cell.{Cell}
use Rattle.record_map.specs.Cells.{value_at, between_edges, fresh, upper_edge, shown_by}
use Rattle.tree_nodes.specs.declared.node.Node.{Node}
use Rattle.tree_nodes.specs.Nodes.{NodeRow, IsOver, low_behind, without_mark}
use Rattle.tree_nodes.specs.Levels.{row_of, HasPutAt, HasUnmarkedAt}
use Rattle.db_tree.specs.Content.{NameState, name_state, held_under, kept_by, shown_held}
use Rattle.db_tree.specs.Dirty.{are_as_shown, is_as_imaged, is_unlike}
use Rattle.record_map.specs.Cells.{is_as_shown, is_same_version}
use Rattle.db_tree.specs.Images.{Placed, IsRead, child_in, entry_at, last_says, shown, version_imaged}
use Rattle.db_tree.specs.Trees.{IsBehind, IsMarked, IsTree, IsTreeOf, KnowImages}
use Rattle.db_tree.proofs.Contents.{passed_found, within}
use Rattle.db_tree.proofs.Over.{over_low, over_once, over_put}
use Rattle.db_tree.proofs.Says.{know_come}

-- ---- versions

pub same_is : (a b : Version) → is_same_version a b ≡ true → a ≡ b
same_is (There a) (There b) is = ap There (eqb-true a b is)
same_is (There a) Deleted is = absurd (true≢false (sym is))
same_is (There a) Unset is = absurd (true≢false (sym is))
same_is Deleted (There b) is = absurd (true≢false (sym is))
same_is Deleted Deleted is = refl
same_is Deleted Unset is = absurd (true≢false (sym is))
same_is Unset (There b) is = absurd (true≢false (sym is))
same_is Unset Deleted is = absurd (true≢false (sym is))
same_is Unset Unset is = refl

same_self : (a : Version) → is_same_version a a ≡ true
same_self (There a) = eq-eqb a a refl
same_self Deleted = refl
same_self Unset = refl

pub is_same : (a b : Version) → a ≡ b → is_same_version a b ≡ true
is_same a b is = subst (λ (v : Version). is_same_version a v ≡ true) is (same_self a)

-- ---- cells

-- one of some that all pass a test
pub all_pass : (p : Cell → Bool) (cells : List (Name × Cell)) (x : Name) (cell : Cell) → list_all (λ e. p e.1) cells ≡ true → value_at x cells ≡ Some cell → p cell ≡ true
all_pass p [] x cell all there = absurd (none-some cell there)
all_pass p (e ∷ cells) x cell all there = by_test (is_at (name_cmp x) e.0) there (p e.1) refl all (λ more rest. all_pass p cells x cell more rest)
  where
    same_cell : (a b : Cell) → Some a ≡ Some b → a ≡ b
    same_cell a b h = same_Some a b h

    by_test : (t : Bool) → cond t (Some e.1) (value_at x cells) ≡ Some cell → (u : Bool) → p e.1 ≡ u → (u && list_all (λ f. p f.1) cells) ≡ true →
        (list_all (λ f. p f.1) cells ≡ true → value_at x cells ≡ Some cell → p cell ≡ true) → p cell ≡ true
    by_test t here false is all_is later = absurd (true≢false (sym all_is))
    by_test true here true is all_is later = ap p (sym (same_cell e.1 cell here)) ∙ is
    by_test false here true is all_is later = later all_is here

fresh_shown : (at : ℕ) → shown_held at (name_state fresh) ≡ Unset
fresh_shown at = by_test (nat_lt at 0)
  where
    by_test : (t : Bool) → cond t Unset Unset ≡ Unset
    by_test true = refl
    by_test false = refl

-- what the image of a BIN says of a name is committed, where so it is with each of the BIN's cells
pub held_shown : (es : Placed) (base : ℕ) (rows : List NodeRow) (cells : List (Name × Cell)) (e : Name × Node) (at : ℕ) (x : Name) → KnowImages es base rows (kept_by cells) → e.1.last ≡ Some at →
    are_as_shown (Some at) e.0 (row_of rows 0) cells ≡ true → IsOver (row_of rows 0) x e → version_imaged (entry_at es at) x ≡ (kept_by cells x).version
held_shown es base rows cells e at x know is all over = know.shown x e at over is ∙ by_cell (value_at x cells) refl
  where
    by_cell : (o : Option Cell) → value_at x cells ≡ o → shown_held at (held_under o) ≡ (held_under o).version
    by_cell None there = fresh_shown at
    by_cell (Some cell) there =
        same_is (shown_by (Some at) cell) cell.version
        (all_pass (is_as_shown (Some at)) (between_edges (At e.0) (upper_edge (low_behind e.0 (row_of rows 0))) cells) x cell all
        (passed_found (is_between (At e.0) (upper_edge (low_behind e.0 (row_of rows 0)))) cells x (within (row_of rows 0) x e over) ∙ there))

-- ---- nodes

-- a node over a name is the one that was put, or one that was over it
abbrev pub ComesPut : List NodeRow → Name × Node → Node → ℕ → Name → Name × Node → Type 0
ComesPut old m n l x e = ((l ≡ 0) × (e.1 ≡ n) × IsOver (row_of old 0) x m) ⊎ IsOver (row_of old l) x e

pub comes_put : (old new : List NodeRow) (m : Name × Node) (n : Node) (l : ℕ) (x : Name) (e : Name × Node) → value_at m.0 (row_of old 0) ≡ Some m.1 → HasPutAt old new 0 m.0 n → IsOver (row_of new l) x e → ComesPut old m n l x e
comes_put old new m n l x e there put over = by_level (cases_eq l 0)
  where
    by_level : (l ≡ 0) ⊎ (l ≡ 0 → ⊥) → ComesPut old m n l x e
    by_level (inr other) = inr (subst (λ (row : NodeRow). IsOver row x e) (put.others l other) over)
    by_level (inl same) =
        by_place (over_put (row_of old 0) (row_of new 0) m.0 m.0 x m.1 n e put.here (over_low (row_of old 0) m.0 m.1 there) (subst (λ (k : ℕ). IsOver (row_of new k) x e) same over))
      where
        by_place : ((e.1 ≡ n) × IsOver (row_of old 0) x (m.0, m.1)) ⊎ IsOver (row_of old 0) x e → ComesPut old m n l x e
        by_place (inl is) = inl (same, is.0, is.1)
        by_place (inr was) = inr (subst (λ (k : ℕ). IsOver (row_of old k) x e) (sym same) was)

-- what images say is known where a node of a BIN was put that has the same last image
pub put_know : (es : Placed) (base : ℕ) (old new : List NodeRow) (held : Name → NameState) (m : Name × Node) (n : Node) → value_at m.0 (row_of old 0) ≡ Some m.1 → n.last ≡ m.1.last → HasPutAt old new 0 m.0 n →
    KnowImages es base old held → KnowImages es base new held
put_know es base old new held m n there same put know = know_come es base old new held (λ x e over. from x e (comes_put old new m n 0 x e there put over)) know
  where
    from : (x : Name) (e : Name × Node) → ComesPut old m n 0 x e → (w : Name × Node) × IsOver (row_of old 0) x w × (e.1.last ≡ w.1.last)
    from x e (inl c) = (m, c.2, ap (λ (k : Node). k.last) c.1 ∙ same)
    from x e (inr over) = (e, over, refl)

-- a tree fits its log still
pub unmarked_tree : (es : Placed) (base : ℕ) (newest : Name → ℕ) (old new : List NodeRow) (held : Name → NameState) (m : Name × Node) → value_at m.0 (row_of old 0) ≡ Some m.1 → HasPutAt old new 0 m.0 (without_mark m.1) →
    ((x : Name) → IsOver (row_of old 0) x m → last_says es m.1.last x ≡ (held x).version) → IsTreeOf es base newest old held → IsTreeOf es base newest new held
unmarked_tree es base newest old new held m there put shows tree = record {
  reads = λ l x e at over is. reads l x e at is (from l x e over);
  leaf = λ x e over. leaf x e (from 0 x e over);
  inner = λ l x e c upper lower. inner l x e c (from (suc l) x e upper) (from l x c lower);
  names = λ l x e c at upper lower is. names l x e c at is (from (suc l) x e upper) (from l x c lower);
  know = put_know es base old new held m (without_mark m.1) there refl put tree.know;
}
  where
    from : (l : ℕ) (x : Name) (e : Name × Node) → IsOver (row_of new l) x e → ComesPut old m (without_mark m.1) l x e
    from l x e over = comes_put old new m (without_mark m.1) l x e there put over

    last_of : (e : Name × Node) → e.1 ≡ without_mark m.1 → e.1.last ≡ m.1.last
    last_of e is = ap (λ (n : Node). n.last) is

    reads : (l : ℕ) (x : Name) (e : Name × Node) (at : ℕ) → e.1.last ≡ Some at → ComesPut old m (without_mark m.1) l x e → IsRead es l at x
    reads l x e at is (inl c) = subst (λ (k : ℕ). IsRead es k at x) (sym c.0) (tree.reads 0 x m at c.2 (sym (last_of e c.1) ∙ is))
    reads l x e at is (inr over) = tree.reads l x e at over is

    leaf : (x : Name) (e : Name × Node) → ComesPut old m (without_mark m.1) 0 x e → (last_says es e.1.last x ≡ (held x).version) ⊎ IsBehind base newest e.1 x
    leaf x e (inl c) = inl (ap (λ (last : Option ℕ). last_says es last x) (last_of e c.1) ∙ shows x c.2)
    leaf x e (inr over) = tree.leaf x e over

    none : {A : Type 0} (l : ℕ) → suc l ≡ 0 → A
    none l is = absurd (omega (arith, is))

    inner : (l : ℕ) (x : Name) (e c : Name × Node) → ComesPut old m (without_mark m.1) (suc l) x e → ComesPut old m (without_mark m.1) l x c → (shown es (suc l) e.1.last x ≡ shown es l c.1.last x) ⊎ IsBehind base newest e.1 x
    inner l x e c (inl up) low = none l up.0
    inner l x e c (inr up) (inr low) = tree.inner l x e c up low
    inner l x e c (inr up) (inl low) = by_side (tree.inner l x e m up (subst (λ (k : ℕ). IsOver (row_of old k) x m) (sym low.0) low.2))
      where
        by_side : (shown es (suc l) e.1.last x ≡ shown es l m.1.last x) ⊎ IsBehind base newest e.1 x → (shown es (suc l) e.1.last x ≡ shown es l c.1.last x) ⊎ IsBehind base newest e.1 x
        by_side (inl h) = inl (h ∙ sym (ap (λ (last : Option ℕ). shown es l last x) (last_of c low.1)))
        by_side (inr h) = inr h

    names : (l : ℕ) (x : Name) (e c : Name × Node) (at : ℕ) → e.1.last ≡ Some at → ComesPut old m (without_mark m.1) (suc l) x e → ComesPut old m (without_mark m.1) l x c → (child_in (entry_at es at) x ≡ c.1.last) ⊎ IsMarked e.1
    names l x e c at is (inl up) low = none l up.0
    names l x e c at is (inr up) (inr low) = tree.names l x e c at up low is
    names l x e c at is (inr up) (inl low) = by_side (tree.names l x e m at up (subst (λ (k : ℕ). IsOver (row_of old k) x m) (sym low.0) low.2) is)
      where
        by_side : (child_in (entry_at es at) x ≡ m.1.last) ⊎ IsMarked e.1 → (child_in (entry_at es at) x ≡ c.1.last) ⊎ IsMarked e.1
        by_side (inl h) = inl (h ∙ sym (last_of c low.1))
        by_side (inr h) = inr h

-- a BIN with its last image's content needs no mark
pub settled_tree : (es : Placed) (base : ℕ) (newest : Name → ℕ) (old new : List NodeRow) (cells : List (Name × Cell)) (m : Name × Node) → value_at m.0 (row_of old 0) ≡ Some m.1 → HasPutAt old new 0 m.0 (without_mark m.1) →
    is_some m.1.last ≡ true → are_as_shown m.1.last m.0 (row_of old 0) cells ≡ true → IsTree es base newest old cells → IsTree es base newest new cells
settled_tree es base newest old new cells m there put some all tree = unmarked_tree es base newest old new (kept_by cells) m there put (λ x over. by_last m.1.last refl some all x over) tree
  where
    by_last : (o : Option ℕ) → m.1.last ≡ o → is_some o ≡ true → are_as_shown o m.0 (row_of old 0) cells ≡ true → (x : Name) → IsOver (row_of old 0) x m → last_says es o x ≡ (kept_by cells x).version
    by_last None is has are x over = absurd (true≢false (sym has))
    by_last (Some at) is has are x over = held_shown es base old cells m at x tree.know is are over

-- the node over a name got no mark
pub unmarked_at : (old new : List NodeRow) (x : Name) (e : Name × Node) → HasUnmarkedAt old new 0 x → IsOver (row_of old 0) x e → HasPutAt old new 0 e.0 (without_mark e.1)
unmarked_at old new x e m over = subst (λ (n : Node). HasPutAt old new 0 e.0 (without_mark n)) node (subst (λ (y : Name). HasPutAt old new 0 y (without_mark m.e.1)) name m.put)
  where
    name : m.e.0 ≡ e.0
    name = over_once (row_of old 0) x m.e e m.over over

    node : m.e.1 ≡ e.1
    node = same_Some m.e.1 e.1 (sym m.over.there ∙ ap (λ (y : Name). value_at y (row_of old 0)) name ∙ over.there)

-- what holds of a BIN that has its last image's content
pub imaged_last : (row : NodeRow) (cells : List (Name × Cell)) (e : Name × Node) → is_as_imaged row cells e ≡ true → (is_some e.1.last ≡ true) × (are_as_shown e.1.last e.0 row cells ≡ true)
imaged_last row cells e is = by_tests (not e.1.forced) (is_some e.1.last) (are_as_shown e.1.last e.0 row cells) is
  where
    by_tests : (a b c : Bool) → (a && (b && c)) ≡ true → (b ≡ true) × (c ≡ true)
    by_tests false b c h = absurd (true≢false (sym h))
    by_tests true false c h = absurd (true≢false (sym h))
    by_tests true true c h = (refl, h)

-- such a BIN has an image, and does not wait
pub imaged_may : (row : NodeRow) (cells : List (Name × Cell)) (e : Name × Node) → is_as_imaged row cells e ≡ true → (not e.1.forced && is_some e.1.last) ≡ true
imaged_may row cells e is = by_tests (not e.1.forced) (is_some e.1.last) (are_as_shown e.1.last e.0 row cells) is
  where
    by_tests : (a b c : Bool) → (a && (b && c)) ≡ true → (a && b) ≡ true
    by_tests false b c h = absurd (true≢false (sym h))
    by_tests true false c h = absurd (true≢false (sym h))
    by_tests true true c h = refl

-- a BIN with a name of which its last image says something else has not its content
pub unlike_away : (row : NodeRow) (cells : List (Name × Cell)) (x : Name) (e : Name × Node) → IsOver row x e → is_unlike e.1.last (value_at x cells) ≡ true → is_as_imaged row cells e ≡ false
unlike_away row cells x e over unlike = by_test (is_as_imaged row cells e) refl
  where
    by_cell : (o : Option Cell) → value_at x cells ≡ o → is_unlike e.1.last o ≡ true → are_as_shown e.1.last e.0 row cells ≡ true → is_as_imaged row cells e ≡ false
    by_cell None there h all = absurd (true≢false (sym h))
    by_cell (Some cell) there h all =
        absurd (true≢false (sym h
        ∙ ap not (all_pass (is_as_shown e.1.last) (between_edges (At e.0) (upper_edge (low_behind e.0 row)) cells) x cell all
        (passed_found (is_between (At e.0) (upper_edge (low_behind e.0 row))) cells x (within row x e over) ∙ there))))

    by_test : (t : Bool) → is_as_imaged row cells e ≡ t → is_as_imaged row cells e ≡ false
    by_test false is = is
    by_test true is = by_cell (value_at x cells) refl unlike (imaged_last row cells e is).1
