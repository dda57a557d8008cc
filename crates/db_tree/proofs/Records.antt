-- Changes of a tree's records keep that it fits its log.
use Rattle.std.proofs.Common.{◌≡◌, ◌<◌, ◌≤◌, ◌⊎◌, ℕ, List, [], Bool, true, false, cond, Option, None, Some, IsSome, option_map, unwrap_or, refl, ap, ap₂, sym, subst, ◌∙◌, inl, inr, arith, is_eq}
use Rattle.std.proofs.lemmas.Bool.{true≢false}
use Rattle.std.proofs.lemmas.Option.{same_Some}
use Rattle.je_order.specs.Order.{name_cmp}
use Rattle.je_order.specs.declared.name.Name.{Name}
use Rattle.record_map.specs.declared.cell.Cell.{Cell}
use Rattle.node_core.specs.declared.slot.Version.{Version}
use Rattle.node_core.specs.declared.slot.Version.TheVariants.{There, Deleted, Unset}
use Rattle.node_core.specs.Changes.{is_committed}
use Rattle.record_map.specs.Cells.{fresh, value_at, with_version, with_write}
use Rattle.record_map.proofs.NameLaws.{same_or_other, name_same, other_stays, same_gets}
use Rattle.tree_nodes.specs.declared.node.Node.{Node}
use Rattle.tree_nodes.specs.Nodes.{NodeRow, IsUpTo, IsOver, earlier, marked}
use Rattle.tree_nodes.specs.Levels.{row_of, HasMarkedAt, HasPutAt}
use Rattle.db_tree.specs.Images.{Placed}
use Rattle.db_tree.specs.Content.{NameState, name_state, held_under, kept_by}
use Rattle.db_tree.specs.Stored.{with_logged, version_logged}
use Rattle.db_tree.specs.Trees.{IsTreeOf, IsBehind, IsMark, IsTree, HasCell, KnowImages, cell_or_fresh, given_up}
use Rattle.db_tree.proofs.Order.{same_up}
use Rattle.db_tree.proofs.Over.{over_low, over_once}
use Rattle.db_tree.proofs.Marking.{marked_or_split, committed, same_held}

-- ---- marks

earlier_up : (own : Option ℕ) (f from : ℕ) → own ≡ Some f → earlier own from ≤ f
earlier_up own f from is = subst (λ (o : Option ℕ). earlier o from ≤ f) (sym is) (omega arith)

pub earlier_below : (own : Option ℕ) (from : ℕ) → earlier own from ≤ from
earlier_below None from = omega arith
earlier_below (Some f) from = omega arith

is_mark : (n : Node) (from : ℕ) → IsMark n (marked from n)
is_mark n from = record { last = refl; from = λ f is. (earlier n.from from, refl, earlier_up n.from f from is) }

pub marks : (es : Placed) (base : ℕ) (newest : Name → ℕ) (old new : List NodeRow) (held : Name → NameState) (level : ℕ) (x : Name) (from : ℕ) →
    HasMarkedAt old new level x from → IsTreeOf es base newest old held → IsTreeOf es base newest new held
marks es base newest old new held level x from m tree =
    marked_or_split es base newest old new held level m.e.0 m.e.0 m.e.1 (marked from m.e.1) (over_low (row_of old level) m.e.0 m.e.1 m.over.there) m.put (is_mark m.e.1 from) tree

-- a node waits to be logged
pub waits : (es : Placed) (base : ℕ) (newest : Name → ℕ) (old new : List NodeRow) (held : Name → NameState) (level : ℕ) (low : Name) (m n : Node) (from : ℕ) → value_at low (row_of old level) ≡ Some m →
    HasPutAt old new level low n → n.last ≡ m.last → n.from ≡ Some (earlier m.from from) → IsTreeOf es base newest old held → IsTreeOf es base newest new held
waits es base newest old new held level low m n from there put last is tree =
    marked_or_split es base newest old new held level low low m n (over_low (row_of old level) low m there) put
    (record { last = last; from = λ f own. (earlier m.from from, is, earlier_up m.from f from own) }) tree

-- the node over a name after it was marked
pub marked_over : (old new : List NodeRow) (level : ℕ) (x : Name) (from : ℕ) → (m : HasMarkedAt old new level x from) → IsOver (row_of new level) x (m.e.0, marked from m.e.1)
marked_over old new level x from m = record { there = here; below = m.over.below; most = most }
  where
    here : value_at m.e.0 (row_of new level) ≡ Some (marked from m.e.1)
    here = m.put.here m.e.0 ∙ same_gets m.e.0 (Some (marked from m.e.1)) (value_at m.e.0 (row_of old level))

    most : (q : Name) → IsSome (value_at q (row_of new level)) → IsUpTo q x → IsUpTo q m.e.0
    most q there up = by_name (same_or_other m.e.0 q)
      where
        by_name : (m.e.0 ≡ q) ⊎ (is_eq (name_cmp m.e.0 q) ≡ false) → IsUpTo q m.e.0
        by_name (inl same) = same_up q m.e.0 (sym same)
        by_name (inr apart) = m.over.most q (subst IsSome (m.put.here q ∙ other_stays m.e.0 q (Some (marked from m.e.1)) (value_at q (row_of old level)) apart) there) up

pub over_marked : (old new : List NodeRow) (level : ℕ) (x : Name) (from : ℕ) (e : Name × Node) → (m : HasMarkedAt old new level x from) → IsOver (row_of new level) x e → e.1 ≡ marked from m.e.1
over_marked old new level x from e m over =
    let is_over : IsOver (row_of new level) x (m.e.0, marked from m.e.1) = marked_over old new level x from m in
    let names : e.0 ≡ m.e.0 = over_once (row_of new level) x e (m.e.0, marked from m.e.1) over is_over in
    same_Some e.1 (marked from m.e.1) (sym over.there ∙ ap (λ (y : Name). value_at y (row_of new level)) names ∙ is_over.there)

-- ---- commits

-- a name's BIN is marked, and the name has other data
pub changes : (es : Placed) (base : ℕ) (newest : Name → ℕ) (old new : List NodeRow) (held next : Name → NameState) (name : Name) (from : ℕ) →
    HasMarkedAt old new 0 name from → (from ≤ newest name) ⊎ (from < base) → ((x : Name) → is_eq (name_cmp name x) ≡ false → next x ≡ held x) →
    KnowImages es base new next → IsTreeOf es base newest old held → IsTreeOf es base newest new next
changes es base newest old new held next name from m marked others know tree =
    committed es base newest new held next (λ x e over. by_name x e over (same_or_other name x)) know (marks es base newest old new held 0 name from m tree)
  where
    behind : (e : Name × Node) → IsOver (row_of new 0) name e → IsBehind base newest e.1 name
    behind e over = (earlier m.e.1.from from, ap (λ (n : Node). n.from) (over_marked old new 0 name from e m over), by_mark marked)
      where
        by_mark : (from ≤ newest name) ⊎ (from < base) → (earlier m.e.1.from from ≤ newest name) ⊎ (earlier m.e.1.from from < base)
        by_mark (inl le) = let low : earlier m.e.1.from from ≤ from = earlier_below m.e.1.from from in inl (omega (arith, low, le))
        by_mark (inr less) = let low : earlier m.e.1.from from ≤ from = earlier_below m.e.1.from from in inr (omega (arith, low, less))

    by_name : (x : Name) (e : Name × Node) → IsOver (row_of new 0) x e → (name ≡ x) ⊎ (is_eq (name_cmp name x) ≡ false) → ((next x).version ≡ (held x).version) ⊎ IsBehind base newest e.1 x
    by_name x e over (inl same) = inr (subst (λ (y : Name). IsBehind base newest e.1 y) same (behind e (subst (λ (y : Name). IsOver (row_of new 0) y e) (sym same) over)))
    by_name x e over (inr apart) = inl (ap (λ (h : NameState). h.version) (others x apart))

pub commits : (es : Placed) (base : ℕ) (newest : Name → ℕ) (old new : List NodeRow) (held next : Name → NameState) (name : Name) (from : ℕ) →
    HasMarkedAt old new 0 name from → from ≤ newest name → ((x : Name) → is_eq (name_cmp name x) ≡ false → next x ≡ held x) →
    KnowImages es base new next → IsTreeOf es base newest old held → IsTreeOf es base newest new next
commits es base newest old new held next name from m le others know tree = changes es base newest old new held next name from m (inl le) others know tree

-- cells that differ at one name alone hold the same under the others
pub held_apart : (old new : List (Name × Cell)) (name : Name) (o : Option Cell) → ((x : Name) → value_at x new ≡ cond (is_eq (name_cmp name x)) o (value_at x old)) →
    (x : Name) → is_eq (name_cmp name x) ≡ false → kept_by new x ≡ kept_by old x
held_apart old new name o has x apart = ap held_under (has x ∙ other_stays name x o (value_at x old) apart)

-- ---- changes that are not committed

pub fresh_holds : (o : Option Cell) → name_state (cell_or_fresh o) ≡ held_under o
fresh_holds None = refl
fresh_holds (Some cell) = refl

-- what is held stays where the one name that changed has what it had
pub same_kept : (old new : List (Name × Cell)) (name : Name) (cell : Cell) → HasCell old new name cell → name_state cell ≡ name_state (cell_or_fresh (value_at name old)) → (x : Name) → kept_by new x ≡ kept_by old x
same_kept old new name cell has same x = by_name (same_or_other name x)
  where
    by_name : (name ≡ x) ⊎ (is_eq (name_cmp name x) ≡ false) → kept_by new x ≡ kept_by old x
    by_name (inl is) =
        subst (λ (y : Name). kept_by new y ≡ kept_by old y) is
        (ap held_under (has name ∙ same_gets name (Some cell) (value_at name old)) ∙ same ∙ fresh_holds (value_at name old))
    by_name (inr apart) = held_apart old new name (Some cell) has x apart

pub holds : (es : Placed) (base : ℕ) (newest : Name → ℕ) (rows : List NodeRow) (old new : List (Name × Cell)) (name : Name) (cell : Cell) →
    HasCell old new name cell → name_state cell ≡ name_state (cell_or_fresh (value_at name old)) → IsTree es base newest rows old → IsTree es base newest rows new
holds es base newest rows old new name cell has same tree = same_held es base newest rows (kept_by old) (kept_by new) (same_kept old new name cell has same) tree

-- a cell that is there
pub kept_cell : (cells : List (Name × Cell)) (name : Name) (cell : Cell) → value_at name cells ≡ Some cell → HasCell cells cells name (cell_or_fresh (value_at name cells))
kept_cell cells name cell there x = by_name (same_or_other name x)
  where
    here : Some (cell_or_fresh (value_at name cells)) ≡ value_at name cells
    here = ap (λ (o : Option Cell). Some (cell_or_fresh o)) there ∙ sym there

    by_name : (name ≡ x) ⊎ (is_eq (name_cmp name x) ≡ false) → value_at x cells ≡ cond (is_eq (name_cmp name x)) (Some (cell_or_fresh (value_at name cells))) (value_at x cells)
    by_name (inl same) =
        subst (λ (y : Name). value_at y cells ≡ cond (is_eq (name_cmp name y)) (Some (cell_or_fresh (value_at name cells))) (value_at y cells)) same
        (sym here ∙ sym (same_gets name (Some (cell_or_fresh (value_at name cells))) (value_at name cells)))
    by_name (inr apart) = sym (other_stays name x (Some (cell_or_fresh (value_at name cells))) (value_at x cells) apart)

pub there_cell : (cells : List (Name × Cell)) (name : Name) → IsSome (value_at name cells) → HasCell cells cells name (cell_or_fresh (value_at name cells))
there_cell cells name some = by_value (value_at name cells) refl some
  where
    by_value : (o : Option Cell) → value_at name cells ≡ o → IsSome o → HasCell cells cells name (cell_or_fresh (value_at name cells))
    by_value None is some = absurd (true≢false (sym some))
    by_value (Some cell) is some = kept_cell cells name cell is

-- what is committed of a cell, logged again
abbrev held_with : Version → Version → ℕ → NameState
held_with version shown touched = record { version = version; shown = shown; touched = touched }

pub again_holds : (value : Option (List ℕ)) (at commit : ℕ) (cell : Cell) → version_logged at value ≡ cell.version → commit ≡ cell.touched → name_state (with_logged value at commit None cell) ≡ name_state cell
again_holds value at commit cell version touched = by_value value version
  where
    whole : (v : Version) → v ≡ cell.version → held_with v cell.shown commit ≡ held_with cell.version cell.shown cell.touched
    whole v is = ap₂ (λ (k : Version) (t : ℕ). held_with k cell.shown t) is touched

    by_value : (v : Option (List ℕ)) → version_logged at v ≡ cell.version → name_state (with_logged v at commit None cell) ≡ name_state cell
    by_value None is = whole Deleted is
    by_value (Some bytes) is = whole (There at) is

pub cell_there : (old new : List (Name × Cell)) (name : Name) (cell : Cell) → HasCell old new name cell → value_at name new ≡ Some cell
cell_there old new name cell has = has name ∙ same_gets name (Some cell) (value_at name old)

-- a cell is made, and then changed
pub made_and_changed : (old mid new : List (Name × Cell)) (name : Name) (cell : Cell) (change : Cell → Cell) → HasCell old mid name cell →
    ((x : Name) → value_at x new ≡ cond (is_eq (name_cmp name x)) (option_map change (value_at name mid)) (value_at x mid)) → HasCell old new name (change cell)
made_and_changed old mid new name cell change has changed x = changed x ∙ by_name (same_or_other name x)
  where
    by_name : (name ≡ x) ⊎ (is_eq (name_cmp name x) ≡ false) →
        cond (is_eq (name_cmp name x)) (option_map change (value_at name mid)) (value_at x mid) ≡ cond (is_eq (name_cmp name x)) (Some (change cell)) (value_at x old)
    by_name (inl same) =
        ap (λ (o : Option Cell). cond (is_eq (name_cmp name x)) (option_map change o) (value_at x mid)) (cell_there old mid name cell has)
        ∙ ap (λ (t : Bool). cond t (Some (change cell)) (value_at x mid)) equal ∙ sym (ap (λ (t : Bool). cond t (Some (change cell)) (value_at x old)) equal)
      where
        equal : is_eq (name_cmp name x) ≡ true
        equal = subst (λ (y : Name). is_eq (name_cmp name y) ≡ true) same (ap is_eq (name_same name))
    by_name (inr apart) =
        other_stays name x (option_map change (value_at name mid)) (value_at x mid) apart
        ∙ has x
        ∙ other_stays name x (Some cell) (value_at x old) apart
        ∙ sym (other_stays name x (Some (change cell)) (value_at x old) apart)

-- ---- changes that are given up

pub nothing_given : (cells : List (Name × Cell)) (name : Name) → value_at name cells ≡ None →
    (x : Name) → value_at x cells ≡ cond (is_eq (name_cmp name x)) (given_up (value_at name cells)) (value_at x cells)
nothing_given cells name none x = by_name (same_or_other name x)
  where
    here : given_up (value_at name cells) ≡ value_at name cells
    here = ap given_up none ∙ sym none

    by_name : (name ≡ x) ⊎ (is_eq (name_cmp name x) ≡ false) → value_at x cells ≡ cond (is_eq (name_cmp name x)) (given_up (value_at name cells)) (value_at x cells)
    by_name (inl same) =
        subst (λ (y : Name). value_at y cells ≡ cond (is_eq (name_cmp name y)) (given_up (value_at name cells)) (value_at y cells)) same
        (sym here ∙ sym (same_gets name (given_up (value_at name cells)) (value_at name cells)))
    by_name (inr apart) = sym (other_stays name x (given_up (value_at name cells)) (value_at x cells) apart)

given_holds : (o : Option Cell) → ((held_under o).version ≡ Unset → held_under o ≡ name_state fresh) → held_under (given_up o) ≡ held_under o
given_holds None unset = refl
given_holds (Some cell) unset = by_version cell.version refl
  where
    by_version : (v : Version) → cell.version ≡ v → held_under (cond (is_committed cell.version) (Some (with_write None cell)) None) ≡ name_state cell
    by_version (There lsn) is = ap (λ (k : Version). held_under (cond (is_committed k) (Some (with_write None cell)) None)) is
    by_version Deleted is = ap (λ (k : Version). held_under (cond (is_committed k) (Some (with_write None cell)) None)) is
    by_version Unset is = ap (λ (k : Version). held_under (cond (is_committed k) (Some (with_write None cell)) None)) is ∙ sym (unset is)

-- what is held stays where of a name of which nothing is committed no image says anything
pub given_kept : (old new : List (Name × Cell)) (name : Name) → ((x : Name) → value_at x new ≡ cond (is_eq (name_cmp name x)) (given_up (value_at name old)) (value_at x old)) →
    ((kept_by old name).version ≡ Unset → kept_by old name ≡ name_state fresh) → (x : Name) → kept_by new x ≡ kept_by old x
given_kept old new name has unset x = by_name (same_or_other name x)
  where
    by_name : (name ≡ x) ⊎ (is_eq (name_cmp name x) ≡ false) → kept_by new x ≡ kept_by old x
    by_name (inl is) =
        subst (λ (y : Name). kept_by new y ≡ kept_by old y) is
        (ap held_under (has name ∙ same_gets name (given_up (value_at name old)) (value_at name old)) ∙ given_holds (value_at name old) unset)
    by_name (inr apart) = held_apart old new name (given_up (value_at name old)) has x apart

pub gives_up : (es : Placed) (base : ℕ) (newest : Name → ℕ) (rows : List NodeRow) (old new : List (Name × Cell)) (name : Name) →
    ((x : Name) → value_at x new ≡ cond (is_eq (name_cmp name x)) (given_up (value_at name old)) (value_at x old)) → IsTree es base newest rows old → IsTree es base newest rows new
gives_up es base newest rows old new name has tree = same_held es base newest rows (kept_by old) (kept_by new) (given_kept old new name has (tree.know.unset name)) tree

-- ---- what is committed of a name, in its cell or in a new one

logged_is : (value : Option (List ℕ)) (at commit : ℕ) (last : Option ℕ) (cell : Cell) → with_version (version_logged at value) (unwrap_or value []) commit last cell ≡ with_logged value at commit last cell
logged_is None at commit last cell = refl
logged_is (Some value) at commit last cell = refl

given_logged : (value : Option (List ℕ)) (at commit : ℕ) (last : Option ℕ) (version : Version) (bytes : List ℕ) (cell : Cell) → version ≡ version_logged at value → bytes ≡ unwrap_or value [] →
    with_version version bytes commit last cell ≡ with_logged value at commit last cell
given_logged value at commit last version bytes cell same_version same_bytes =
    ap₂ (λ (v : Version) (d : List ℕ). with_version v d commit last cell) same_version same_bytes ∙ logged_is value at commit last cell

pub given_has : (old new : List (Name × Cell)) (name : Name) (value : Option (List ℕ)) (at commit : ℕ) (last : Option ℕ) (version : Version) (bytes : List ℕ) → version ≡ version_logged at value → bytes ≡ unwrap_or value [] →
    IsSome (value_at name old) → ((x : Name) → value_at x new ≡ cond (is_eq (name_cmp name x)) (option_map (with_version version bytes commit last) (value_at name old)) (value_at x old)) →
    HasCell old new name (with_logged value at commit last (cell_or_fresh (value_at name old)))
given_has old new name value at commit last version bytes same_version same_bytes some changed =
    subst (λ (cell : Cell). HasCell old new name cell) (given_logged value at commit last version bytes (cell_or_fresh (value_at name old)) same_version same_bytes)
    (made_and_changed old old new name (cell_or_fresh (value_at name old)) (with_version version bytes commit last) (there_cell old name some) changed)
