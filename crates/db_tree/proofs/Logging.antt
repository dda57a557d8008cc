-- An image of a node, and a new root, keep that a tree fits its log.
use Rattle.std.proofs.Common.{◌≡◌, ◌≤◌, ◌<◌, ◌⊎◌, ℕ, zero, suc, List, [], None, Some, IsSome, Bool, true, false, cond, length, ap, sym, subst, ◌∙◌, inl, inr, arith, is_eq}
use Rattle.std.proofs.lemmas.Bool.{cases_eq, cases_order}
use Rattle.std.proofs.lemmas.Option.{none-some, same_Some}
use Rattle.std.proofs.lemmas.List.{get_or_past}
use Rattle.je_order.specs.Order.{name_cmp}
use Rattle.je_order.specs.declared.name.Name.{Name}
use Rattle.record_map.specs.Cells.{value_at}
use Rattle.tree_nodes.specs.declared.node.Node.{Node}
use Rattle.tree_nodes.specs.Nodes.{NodeRow, least, IsOver}
use Rattle.tree_nodes.specs.Levels.{row_of, AreParts}
use Rattle.node_core.specs.declared.slot.Version.{Version}
use Rattle.db_tree.specs.Content.{NameState, lsn_of, shown_held}
use Rattle.db_tree.specs.Images.{Placed, entry_at, child_in, last_says, shown, shows, version_imaged, IsRead}
use Rattle.db_tree.specs.Trees.{IsTreeOf, IsBehind, IsMarked, ShowsContent, NamesChildren}
use Rattle.db_tree.specs.Laws.{TreesAreLogged, TreesAreRaised}
use Rattle.db_tree.proofs.Order.{up_trans}
use Rattle.tree_nodes.proofs.LevelLaws.{is_level}
use Rattle.db_tree.proofs.Over.{over_put, over_low, there_is, is_over}
use Rattle.db_tree.proofs.Says.{image_says, says_shown, shown_behind}

-- the node over a name of a level, seen from a low of the level below that is over it too
pub over_above : (rows : List NodeRow) (level : ℕ) (x : Name) (e c : Name × Node) → AreParts rows → IsOver (row_of rows (suc level)) x e → IsOver (row_of rows level) x c →
    IsOver (row_of rows (suc level)) c.0 e
over_above rows level x e c are upper lower = record {
  there = upper.there;
  below = lower.most e.0 (are.nested level e.0 (there_is (row_of rows (suc level)) e.0 e.1 upper.there)) upper.below;
  most = λ q there up. upper.most q there (up_trans q c.0 x up lower.below);
}

-- a node over a name of the level below, where a level has a low
pub child_is_over : (rows : List NodeRow) (level : ℕ) (x low : Name) → AreParts rows → IsSome (value_at low (row_of rows (suc level))) → (c : Name × Node) × IsOver (row_of rows level) x c
child_is_over rows level x low are there =
    let less : suc level < length rows = is_level rows (suc level) low there in
    is_over (row_of rows level) x (are.rising level) (are.parts level (omega arith))

-- ---- a node is logged

-- what an image shows is what the node's last one showed, but for names that the node is behind for
image_same : (es : Placed) (base : ℕ) (newest : Name → ℕ) (rows : List NodeRow) (held : Name → NameState) (level : ℕ) (x : Name) (e : Name × Node) (at : ℕ) →
    AreParts rows → IsTreeOf es base newest rows held → IsOver (row_of rows level) x e → ShowsContent es rows held level at x →
    (shown es level e.1.last x ≡ shows es level at x) ⊎ IsBehind base newest e.1 x
image_same es base newest rows held zero x e at are tree over content = by_side (tree.leaf x e over)
  where
    by_side : (last_says es e.1.last x ≡ (held x).version) ⊎ IsBehind base newest e.1 x → (shown es 0 e.1.last x ≡ shows es 0 at x) ⊎ IsBehind base newest e.1 x
    by_side (inl h) = inl (sym (says_shown es e.1.last x) ∙ ap (λ (v : Version). lsn_of v) (h ∙ sym content.0) ∙ image_says (entry_at es at) x)
    by_side (inr h) = inr h
image_same es base newest rows held (suc level) x e at are tree over content =
    by_child (child_is_over rows level x e.0 are (there_is (row_of rows (suc level)) e.0 e.1 over.there))
  where
    by_side : (c : Name × Node) → IsOver (row_of rows level) x c → (shown es (suc level) e.1.last x ≡ shown es level c.1.last x) ⊎ IsBehind base newest e.1 x →
        (shown es (suc level) e.1.last x ≡ shows es (suc level) at x) ⊎ IsBehind base newest e.1 x
    by_side c lower (inl h) = inl (h ∙ sym (content c lower))
    by_side c lower (inr h) = inr h

    by_child : (c : Name × Node) × IsOver (row_of rows level) x c → (shown es (suc level) e.1.last x ≡ shows es (suc level) at x) ⊎ IsBehind base newest e.1 x
    by_child found = by_side found.0 found.1 (tree.inner level x e found.0 over found.1)

pub logged : TreesAreLogged
logged es base newest old new held level low n m at are there has last image hand tree = record {
  reads = λ l x e lsn over is. at_reads l x e lsn is (kind l x e over);
  leaf = λ x e over. at_leaf x e (kind 0 x e over);
  inner = λ l x e c upper lower. at_inner l x e c (kind (suc l) x e upper) (kind l x c lower);
  names = λ l x e c lsn upper lower is. at_names l x e c lsn is (kind (suc l) x e upper) (kind l x c lower);
  know = record { shown = λ x e lsn over is. at_shown x e lsn is (kind 0 x e over); unset = tree.know.unset; touched = tree.know.touched };
}
  where
    -- a node over a name is the one that was logged, or was there before
    kind : (l : ℕ) (x : Name) (e : Name × Node) → IsOver (row_of new l) x e → ((l ≡ level) × (e.1 ≡ m) × IsOver (row_of old level) x (low, n)) ⊎ IsOver (row_of old l) x e
    kind l x e over = by_level (cases_eq l level)
      where
        at_level : (l ≡ level) → ((e.1 ≡ m) × IsOver (row_of old level) x (low, n)) ⊎ IsOver (row_of old level) x e → ((l ≡ level) × (e.1 ≡ m) × IsOver (row_of old level) x (low, n)) ⊎ IsOver (row_of old l) x e
        at_level same (inl is) = inl (same, is.0, is.1)
        at_level same (inr was) = inr (subst (λ k. IsOver (row_of old k) x e) (sym same) was)

        by_level : (l ≡ level) ⊎ (l ≡ level → ⊥) → ((l ≡ level) × (e.1 ≡ m) × IsOver (row_of old level) x (low, n)) ⊎ IsOver (row_of old l) x e
        by_level (inl same) =
            at_level same (over_put (row_of old level) (row_of new level) low low x n m e has.here (over_low (row_of old level) low n there) (subst (λ k. IsOver (row_of new k) x e) same over))
        by_level (inr other) = inr (subst (λ (row : NodeRow). IsOver row x e) (has.others l other) over)

    last_is : (e : Name × Node) → e.1 ≡ m → e.1.last ≡ Some at
    last_is e is = ap (λ (k : Node). k.last) is ∙ last

    at_reads : (l : ℕ) (x : Name) (e : Name × Node) (lsn : ℕ) → e.1.last ≡ Some lsn → ((l ≡ level) × (e.1 ≡ m) × IsOver (row_of old level) x (low, n)) ⊎ IsOver (row_of old l) x e → IsRead es l lsn x
    at_reads l x e lsn is (inl new_) =
        subst (λ k. IsRead es k lsn x) (sym new_.0) (subst (λ k. IsRead es level k x) (same_Some at lsn (sym (last_is e new_.1) ∙ is)) (image.reads x new_.2))
    at_reads l x e lsn is (inr over) = tree.reads l x e lsn over is

    at_leaf : (x : Name) (e : Name × Node) → ((0 ≡ level) × (e.1 ≡ m) × IsOver (row_of old level) x (low, n)) ⊎ IsOver (row_of old 0) x e → (last_says es e.1.last x ≡ (held x).version) ⊎ IsBehind base newest e.1 x
    at_leaf x e (inl new_) =
        let content : ShowsContent es old held 0 at x = subst (λ k. ShowsContent es old held k at x) (sym new_.0) (image.shows x new_.2) in
        inl (ap (λ k. last_says es k x) (last_is e new_.1) ∙ content.0)
    at_leaf x e (inr over) = tree.leaf x e over

    at_shown : (x : Name) (e : Name × Node) (lsn : ℕ) → e.1.last ≡ Some lsn → ((0 ≡ level) × (e.1 ≡ m) × IsOver (row_of old level) x (low, n)) ⊎ IsOver (row_of old 0) x e → version_imaged (entry_at es lsn) x ≡ shown_held lsn (held x)
    at_shown x e lsn is (inl new_) =
        let content : ShowsContent es old held 0 at x = subst (λ k. ShowsContent es old held k at x) (sym new_.0) (image.shows x new_.2) in
        subst (λ (k : ℕ). version_imaged (entry_at es k) x ≡ shown_held k (held x)) (same_Some at lsn (sym (last_is e new_.1) ∙ is)) (content.0 ∙ sym (shown_behind at (held x) content.1))
    at_shown x e lsn is (inr over) = tree.know.shown x e lsn over is

    -- the node above the one that was logged
    at_child : (x : Name) (e c : Name × Node) → IsOver (row_of old (suc level)) x e → c.1 ≡ m → IsOver (row_of old level) x (low, n) →
        (shown es (suc level) e.1.last x ≡ shown es level c.1.last x) ⊎ IsBehind base newest e.1 x
    at_child x e c upper is lower =
        by_sides (tree.inner level x e (low, n) upper lower) (image_same es base newest old held level x (low, n) at are tree lower (image.shows x lower))
      where
        handed : IsBehind base newest n x → IsBehind base newest e.1 x
        handed behind =
            let mark = hand e (over_above old level x e (low, n) are upper lower) in
            (mark.0, mark.1, by_side mark.0 (mark.2 behind.0 behind.1) behind.2)
          where
            by_side : (g : ℕ) → g ≤ behind.0 → (behind.0 ≤ newest x) ⊎ (behind.0 < base) → (g ≤ newest x) ⊎ (g < base)
            by_side g le (inl h) = inl (omega arith)
            by_side g le (inr h) = inr (omega arith)

        by_sides : (shown es (suc level) e.1.last x ≡ shown es level n.last x) ⊎ IsBehind base newest e.1 x → (shown es level n.last x ≡ shows es level at x) ⊎ IsBehind base newest n x →
            (shown es (suc level) e.1.last x ≡ shown es level c.1.last x) ⊎ IsBehind base newest e.1 x
        by_sides (inl h) (inl same) = inl (h ∙ same ∙ sym (ap (λ k. shown es level k x) (last_is c is)))
        by_sides (inl h) (inr behind) = inr (handed behind)
        by_sides (inr h) side = inr h

    at_inner : (l : ℕ) (x : Name) (e c : Name × Node) → ((suc l ≡ level) × (e.1 ≡ m) × IsOver (row_of old level) x (low, n)) ⊎ IsOver (row_of old (suc l)) x e →
        ((l ≡ level) × (c.1 ≡ m) × IsOver (row_of old level) x (low, n)) ⊎ IsOver (row_of old l) x c → (shown es (suc l) e.1.last x ≡ shown es l c.1.last x) ⊎ IsBehind base newest e.1 x
    at_inner l x e c (inl upper) (inl lower) = let both : suc l ≡ l = upper.0 ∙ sym lower.0 in absurd (omega arith)
    at_inner l x e c (inl upper) (inr lower) =
        let content : (d : Name × Node) → IsOver (row_of old l) x d → shows es (suc l) at x ≡ shown es l d.1.last x = subst (λ k. ShowsContent es old held k at x) (sym upper.0) (image.shows x upper.2) in
        inl (ap (λ k. shown es (suc l) k x) (last_is e upper.1) ∙ content c lower)
    at_inner l x e c (inr upper) (inl lower) =
        subst (λ k. (shown es (suc k) e.1.last x ≡ shown es k c.1.last x) ⊎ IsBehind base newest e.1 x) (sym lower.0)
        (at_child x e c (subst (λ k. IsOver (row_of old (suc k)) x e) lower.0 upper) lower.1 lower.2)
    at_inner l x e c (inr upper) (inr lower) = tree.inner l x e c upper lower

    at_names : (l : ℕ) (x : Name) (e c : Name × Node) (lsn : ℕ) → e.1.last ≡ Some lsn → ((suc l ≡ level) × (e.1 ≡ m) × IsOver (row_of old level) x (low, n)) ⊎ IsOver (row_of old (suc l)) x e →
        ((l ≡ level) × (c.1 ≡ m) × IsOver (row_of old level) x (low, n)) ⊎ IsOver (row_of old l) x c → (child_in (entry_at es lsn) x ≡ c.1.last) ⊎ IsMarked e.1
    at_names l x e c lsn is (inl upper) (inl lower) = let both : suc l ≡ l = upper.0 ∙ sym lower.0 in absurd (omega arith)
    at_names l x e c lsn is (inl upper) (inr lower) =
        let named : (d : Name × Node) → IsOver (row_of old l) x d → child_in (entry_at es at) x ≡ d.1.last = subst (λ k. NamesChildren es old k at x) (sym upper.0) (image.names x upper.2) in
        inl (ap (λ k. child_in (entry_at es k) x) (same_Some lsn at (sym is ∙ last_is e upper.1)) ∙ named c lower)
    at_names l x e c lsn is (inr upper) (inl lower) =
        let mark = hand e (over_above old level x e (low, n) are (subst (λ k. IsOver (row_of old (suc k)) x e) lower.0 upper) lower.2) in inr (mark.0, mark.1)
    at_names l x e c lsn is (inr upper) (inr lower) = tree.names l x e c lsn upper lower is

-- ---- a new root

pub raised : TreesAreRaised
raised es base newest old new held top root at height has last reads content named tree = record {
  reads = λ l x e lsn over is. at_reads l x e lsn is (kind l x e over);
  leaf = λ x e over. at_leaf x e (kind 0 x e over);
  inner = λ l x e c upper lower. at_inner l x e c (kind (suc l) x e upper) (kind l x c lower);
  names = λ l x e c lsn upper lower is. at_names l x e c lsn is (kind (suc l) x e upper) (kind l x c lower);
  know = record { shown = λ x e lsn over is. at_shown x e lsn is (kind 0 x e over); unset = tree.know.unset; touched = tree.know.touched };
}
  where
    is_root : (x : Name) (e : Name × Node) → IsOver (row_of new (length old)) x e → e.1 ≡ root
    is_root x e over = by_test (is_eq (name_cmp least e.0)) (sym (has.top e.0) ∙ over.there)
      where
        by_test : (t : Bool) → cond t (Some root) None ≡ Some e.1 → e.1 ≡ root
        by_test true h = sym (same_Some root e.1 h)
        by_test false h = absurd (none-some e.1 h)

    kind : (l : ℕ) (x : Name) (e : Name × Node) → IsOver (row_of new l) x e → ((l ≡ suc top) × (e.1 ≡ root)) ⊎ ((l ≤ top) × IsOver (row_of old l) x e)
    kind l x e over = by_order (cases_order l (length old))
      where
        by_order : (l ≡ length old) ⊎ ((l < length old) ⊎ (length old < l)) → ((l ≡ suc top) × (e.1 ≡ root)) ⊎ ((l ≤ top) × IsOver (row_of old l) x e)
        by_order (inl same) = inl (same ∙ height, is_root x e (subst (λ k. IsOver (row_of new k) x e) same over))
        by_order (inr (inl less)) = inr (omega arith, subst (λ (row : NodeRow). IsOver row x e) (has.below l less) over)
        by_order (inr (inr more)) =
            let high : length new ≤ l = subst (λ k. k ≤ l) (sym has.height) (omega arith) in
            absurd (none-some e.1 (subst (λ (row : NodeRow). value_at e.0 row ≡ Some e.1) (get_or_past new l [] high) over.there))

    last_is : (e : Name × Node) → e.1 ≡ root → e.1.last ≡ Some at
    last_is e is = ap (λ (k : Node). k.last) is ∙ last

    at_reads : (l : ℕ) (x : Name) (e : Name × Node) (lsn : ℕ) → e.1.last ≡ Some lsn → ((l ≡ suc top) × (e.1 ≡ root)) ⊎ ((l ≤ top) × IsOver (row_of old l) x e) → IsRead es l lsn x
    at_reads l x e lsn is (inl new_) =
        subst (λ k. IsRead es k lsn x) (sym new_.0) (subst (λ k. IsRead es (suc top) k x) (same_Some at lsn (sym (last_is e new_.1) ∙ is)) (reads x))
    at_reads l x e lsn is (inr over) = tree.reads l x e lsn over.1 is

    at_leaf : (x : Name) (e : Name × Node) → ((0 ≡ suc top) × (e.1 ≡ root)) ⊎ ((0 ≤ top) × IsOver (row_of old 0) x e) → (last_says es e.1.last x ≡ (held x).version) ⊎ IsBehind base newest e.1 x
    at_leaf x e (inl new_) = let none : 0 ≡ suc top = new_.0 in absurd (omega arith)
    at_leaf x e (inr over) = tree.leaf x e over.1

    at_shown : (x : Name) (e : Name × Node) (lsn : ℕ) → e.1.last ≡ Some lsn → ((0 ≡ suc top) × (e.1 ≡ root)) ⊎ ((0 ≤ top) × IsOver (row_of old 0) x e) → version_imaged (entry_at es lsn) x ≡ shown_held lsn (held x)
    at_shown x e lsn is (inl new_) = let none : 0 ≡ suc top = new_.0 in absurd (omega arith)
    at_shown x e lsn is (inr over) = tree.know.shown x e lsn over.1 is

    at_inner : (l : ℕ) (x : Name) (e c : Name × Node) → ((suc l ≡ suc top) × (e.1 ≡ root)) ⊎ ((suc l ≤ top) × IsOver (row_of old (suc l)) x e) →
        ((l ≡ suc top) × (c.1 ≡ root)) ⊎ ((l ≤ top) × IsOver (row_of old l) x c) → (shown es (suc l) e.1.last x ≡ shown es l c.1.last x) ⊎ IsBehind base newest e.1 x
    at_inner l x e c (inl upper) (inl lower) = let first : suc l ≡ suc top = upper.0 in let second : l ≡ suc top = lower.0 in absurd (omega arith)
    at_inner l x e c (inl upper) (inr lower) =
        let same : l ≡ top = (let is : suc l ≡ suc top = upper.0 in omega arith) in
        inl (ap (λ k. shown es (suc l) k x) (last_is e upper.1)
        ∙ subst (λ k. shows es (suc k) at x ≡ shown es k c.1.last x) (sym same) (content x c (subst (λ k. IsOver (row_of old k) x c) same lower.1)))
    at_inner l x e c (inr upper) (inl lower) = let first : suc l ≤ top = upper.0 in let second : l ≡ suc top = lower.0 in absurd (omega arith)
    at_inner l x e c (inr upper) (inr lower) = tree.inner l x e c upper.1 lower.1

    at_names : (l : ℕ) (x : Name) (e c : Name × Node) (lsn : ℕ) → e.1.last ≡ Some lsn → ((suc l ≡ suc top) × (e.1 ≡ root)) ⊎ ((suc l ≤ top) × IsOver (row_of old (suc l)) x e) →
        ((l ≡ suc top) × (c.1 ≡ root)) ⊎ ((l ≤ top) × IsOver (row_of old l) x c) → (child_in (entry_at es lsn) x ≡ c.1.last) ⊎ IsMarked e.1
    at_names l x e c lsn is (inl upper) (inl lower) = let first : suc l ≡ suc top = upper.0 in let second : l ≡ suc top = lower.0 in absurd (omega arith)
    at_names l x e c lsn is (inl upper) (inr lower) =
        let same : l ≡ top = (let one : suc l ≡ suc top = upper.0 in omega arith) in
        inl (ap (λ k. child_in (entry_at es k) x) (same_Some lsn at (sym is ∙ last_is e upper.1)) ∙ named x c (subst (λ k. IsOver (row_of old k) x c) same lower.1))
    at_names l x e c lsn is (inr upper) (inl lower) = let first : suc l ≤ top = upper.0 in let second : l ≡ suc top = lower.0 in absurd (omega arith)
    at_names l x e c lsn is (inr upper) (inr lower) = tree.names l x e c lsn upper.1 lower.1 is
