-- A commit keeps that cells know what the last images of their BINs say.
use Rattle.std.proofs.Common.{◌≡◌, ◌<◌, ◌≤◌, ◌+◌, ◌^◌, ◌⊎◌, ℕ, Bool, true, false, cond, List, [], Option, None, Some, IsSome, IfSome, option_map, refl, ap, sym, subst, ◌∙◌, inl, inr, is_eq}
use Rattle.std.specs.List.{AllByRecursion}
use Rattle.std.proofs.lemmas.Bool.{lt-ltb, true≢false}
use Rattle.std.proofs.lemmas.Option.{none-some, same_Some}
use Rattle.std.proofs.Math.Nat.{le_trans}
use Rattle.je_order.specs.Order.{name_cmp}
use Rattle.je_order.specs.declared.name.Name.{Name}
use Rattle.node_core.specs.declared.slot.Version.{Version}
use Rattle.node_core.specs.declared.slot.Version.TheVariants.{There, Deleted, Unset}
use Rattle.record_map.specs.declared.cell.Cell.{Cell}
use Rattle.record_map.specs.declared.write.Write.{Write}
use Rattle.record_map.specs.Cells.{value_at, committed, committed_by, fresh, shown_by, with_committed, with_version, with_write}
use Rattle.record_map.proofs.NameLaws.{same_or_other, same_gets}
use Rattle.tree_nodes.specs.declared.node.Node.{Node}
use Rattle.tree_nodes.specs.Nodes.{NodeRow, IsOver}
use Rattle.tree_nodes.specs.Levels.{row_of}
use Rattle.db_tree.specs.Content.{NameState, name_state, held_under, kept_by, shown_held}
use Rattle.db_tree.specs.Dirty.{IsCommitAt, IsRedoneAt}
use Rattle.db_tree.specs.Images.{Placed, IsBin, entry_at, version_imaged}
use Rattle.db_tree.specs.Stored.{with_logged}
use Rattle.db_tree.specs.Trees.{HasCell, KnowImages, cell_or_fresh}
use Rattle.db_tree.proofs.Over.{over_once}
use Rattle.db_tree.proofs.Says.{bin_before}
use Rattle.db_tree.proofs.Records.{fresh_holds, held_apart}

-- ---- one cell

-- a version that is committed behind an image leaves what the image says
pub version_shown : (v : Version) (value : List ℕ) (at last : ℕ) (cell : Cell) → last < at → shown_by (Some last) (with_version v value at (Some last) cell) ≡ shown_by (Some last) cell
version_shown v value at last cell less = ap (λ (t : Bool). cond t (shown_by (Some last) cell) v) (lt-ltb last at less)

committed_shown : (at last : ℕ) (cell : Cell) → last < at → shown_by (Some last) (committed at (Some last) cell) ≡ shown_by (Some last) cell
committed_shown at last cell less = by_write (option_map (λ w. w.value) cell.write)
  where
    by_value : (lsn : ℕ) (o : Option (List ℕ)) → shown_by (Some last) (with_committed lsn o at (Some last) (with_write None cell)) ≡ shown_by (Some last) cell
    by_value lsn None = version_shown Deleted [] at last (with_write None cell) less
    by_value lsn (Some value) = version_shown (There lsn) value at last (with_write None cell) less

    by_write : (o : Option Write) → shown_by (Some last) (committed_by o at (Some last) cell) ≡ shown_by (Some last) cell
    by_write None = refl
    by_write (Some w) = by_value w.at w.value

committed_unset : (at : ℕ) (last : Option ℕ) (cell : Cell) → (cell.version ≡ Unset → name_state cell ≡ name_state fresh) → (committed at last cell).version ≡ Unset → name_state (committed at last cell) ≡ name_state fresh
committed_unset at last cell unset is = by_write (option_map (λ w. w.value) cell.write) is
  where
    is_set : Version → Bool
    is_set (There lsn) = true
    is_set Deleted = true
    is_set Unset = false

    by_value : {A : Type 0} (lsn : ℕ) (o : Option (List ℕ)) → (with_committed lsn o at last (with_write None cell)).version ≡ Unset → A
    by_value lsn None h = absurd (true≢false (ap is_set h))
    by_value lsn (Some value) h = absurd (true≢false (ap is_set h))

    by_write : (o : Option Write) → (committed_by o at last cell).version ≡ Unset → name_state (committed_by o at last cell) ≡ name_state fresh
    by_write None h = unset h
    by_write (Some w) h = by_value w.at w.value h

committed_touched : (at : ℕ) (last : Option ℕ) (cell : Cell) (next : ℕ) → cell.touched ≤ next → at ≤ next → (committed at last cell).touched ≤ next
committed_touched at last cell next old new = by_write (option_map (λ w. w.value) cell.write)
  where
    by_value : (lsn : ℕ) (o : Option (List ℕ)) → (with_committed lsn o at last (with_write None cell)).touched ≤ next
    by_value lsn None = new
    by_value lsn (Some value) = new

    by_write : (o : Option Write) → (committed_by o at last cell).touched ≤ next
    by_write None = old
    by_write (Some w) = by_value w.at w.value

-- ---- all cells

-- one cell changed, of the BIN over its name, and an image that was there says of it what it said
pub changed_know : (es : Placed) (base : ℕ) (rows : List NodeRow) (old new : List (Name × Cell)) (name : Name) (e : Name × Node) (now : Cell) → IsOver (row_of rows 0) name e →
    ((x : Name) → value_at x new ≡ cond (is_eq (name_cmp name x)) (Some now) (value_at x old)) → ((at : ℕ) → e.1.last ≡ Some at → shown_held at (name_state now) ≡ shown_held at (kept_by old name)) →
    (now.version ≡ Unset → name_state now ≡ name_state fresh) → ((next : ℕ) → base ≤ next → AllByRecursion (λ p. p.0 < next) es → now.touched ≤ next) → KnowImages es base rows (kept_by old) → KnowImages es base rows (kept_by new)
changed_know es base rows old new name e now over changed shows unset touched know = record {
  shown = λ x f at above last. shown x f at above last (same_or_other name x);
  unset = λ x. unset_at x (same_or_other name x);
  touched = λ x next low behind. touched_at x next low behind (same_or_other name x);
}
  where
    here : kept_by new name ≡ name_state now
    here = ap held_under (changed name ∙ same_gets name (Some now) (value_at name old))

    elsewhere : (x : Name) → is_eq (name_cmp name x) ≡ false → kept_by new x ≡ kept_by old x
    elsewhere x apart = held_apart old new name (Some now) changed x apart

    same_last : (f : Name × Node) → IsOver (row_of rows 0) name f → f.1 ≡ e.1
    same_last f above = same_Some f.1 e.1 (sym above.there ∙ ap (λ (y : Name). value_at y (row_of rows 0)) (over_once (row_of rows 0) name f e above over) ∙ over.there)

    shown : (x : Name) (f : Name × Node) (at : ℕ) → IsOver (row_of rows 0) x f → f.1.last ≡ Some at → (name ≡ x) ⊎ (is_eq (name_cmp name x) ≡ false) → version_imaged (entry_at es at) x ≡ shown_held at (kept_by new x)
    shown x f at above last (inr apart) = know.shown x f at above last ∙ ap (λ (h : NameState). shown_held at h) (sym (elsewhere x apart))
    shown x f at above last (inl same) =
        let at_name : IsOver (row_of rows 0) name f = subst (λ (y : Name). IsOver (row_of rows 0) y f) (sym same) above in
        subst (λ (y : Name). version_imaged (entry_at es at) y ≡ shown_held at (kept_by new y)) same
        (know.shown name f at at_name last ∙ sym (shows at (sym (ap (λ (n : Node). n.last) (same_last f at_name)) ∙ last)) ∙ ap (λ (h : NameState). shown_held at h) (sym here))

    unset_at : (x : Name) → (name ≡ x) ⊎ (is_eq (name_cmp name x) ≡ false) → (kept_by new x).version ≡ Unset → kept_by new x ≡ name_state fresh
    unset_at x (inr apart) is = elsewhere x apart ∙ know.unset x (sym (ap (λ (h : NameState). h.version) (elsewhere x apart)) ∙ is)
    unset_at x (inl same) is =
        subst (λ (y : Name). (kept_by new y).version ≡ Unset → kept_by new y ≡ name_state fresh) same (λ (h : (kept_by new name).version ≡ Unset). here ∙ unset (sym (ap (λ (k : NameState). k.version) here) ∙ h)) is

    touched_at : (x : Name) (next : ℕ) → base ≤ next → AllByRecursion (λ p. p.0 < next) es → (name ≡ x) ⊎ (is_eq (name_cmp name x) ≡ false) → (kept_by new x).touched ≤ next
    touched_at x next low behind (inr apart) = subst (λ (h : NameState). h.touched ≤ next) (sym (elsewhere x apart)) (know.touched x next low behind)
    touched_at x next low behind (inl same) = subst (λ (y : Name). (kept_by new y).touched ≤ next) same (subst (λ (h : NameState). h.touched ≤ next) (sym here) (touched next low behind))

-- a name's change is committed
pub commit_know : (es : Placed) (base : ℕ) (rows : List NodeRow) (old new : List (Name × Cell)) (name : Name) (at : ℕ) (e : Name × Node) → IsCommitAt es at → IsOver (row_of rows 0) name e →
    ((lsn : ℕ) → e.1.last ≡ Some lsn → IsBin (entry_at es lsn)) → IsSome (value_at name old) →
    ((x : Name) → value_at x new ≡ cond (is_eq (name_cmp name x)) (option_map (committed at e.1.last) (value_at name old)) (value_at x old)) → KnowImages es base rows (kept_by old) → KnowImages es base rows (kept_by new)
commit_know es base rows old new name at e commit over reads some changed know = by_cell (value_at name old) refl some
  where
    by_cell : (o : Option Cell) → value_at name old ≡ o → IsSome o → KnowImages es base rows (kept_by new)
    by_cell None there is = absurd (true≢false (sym is))
    by_cell (Some cell) there is =
        changed_know es base rows old new name e (committed at e.1.last cell) over
        (λ x. changed x ∙ ap (λ (o : Option Cell). cond (is_eq (name_cmp name x)) (option_map (committed at e.1.last) o) (value_at x old)) there)
        (λ lsn last.
        subst (λ (o : Option ℕ). shown_by (Some lsn) (committed at o cell) ≡ shown_by (Some lsn) cell) (sym last) (committed_shown at lsn cell (commit.behind lsn (reads lsn last)))
        ∙ ap (λ (o : Option Cell). shown_held lsn (held_under o)) (sym there))
        (committed_unset at e.1.last cell (subst (λ (o : Option Cell). (held_under o).version ≡ Unset → held_under o ≡ name_state fresh) there (know.unset name)))
        (λ next low behind. committed_touched at e.1.last cell next (subst (λ (o : Option Cell). (held_under o).touched ≤ next) there (know.touched name next low behind)) (commit.before next behind)) know

-- ---- changes that are redone

logged_unset : {A : Type 0} (value : Option (List ℕ)) (at commit : ℕ) (last : Option ℕ) (cell : Cell) → (with_logged value at commit last cell).version ≡ Unset → A
logged_unset value at commit last cell is = by_value value is
  where
    is_set : Version → Bool
    is_set (There lsn) = true
    is_set Deleted = true
    is_set Unset = false

    by_value : {A : Type 0} (v : Option (List ℕ)) → (with_logged v at commit last cell).version ≡ Unset → A
    by_value None h = absurd (true≢false (ap is_set h))
    by_value (Some bytes) h = absurd (true≢false (ap is_set h))

logged_touched : (value : Option (List ℕ)) (at commit : ℕ) (last : Option ℕ) (cell : Cell) → (with_logged value at commit last cell).touched ≡ commit
logged_touched None at commit last cell = refl
logged_touched (Some bytes) at commit last cell = refl

logged_shown : (value : Option (List ℕ)) (at commit last : ℕ) (cell : Cell) → last < commit → shown_by (Some last) (with_logged value at commit (Some last) cell) ≡ shown_by (Some last) cell
logged_shown None at commit last cell less = version_shown Deleted [] commit last cell less
logged_shown (Some bytes) at commit last cell less = version_shown (There at) bytes commit last cell less

-- a name's change is redone, behind the last image of its BIN
pub redo_know : (es : Placed) (base : ℕ) (rows : List NodeRow) (old new : List (Name × Cell)) (name : Name) (value : Option (List ℕ)) (at commit : ℕ) (e : Name × Node) → IsOver (row_of rows 0) name e →
    ((lsn : ℕ) → e.1.last ≡ Some lsn → lsn < commit) → ((next : ℕ) → base ≤ next → AllByRecursion (λ p. p.0 < next) es → commit ≤ next) →
    HasCell old new name (with_logged value at commit e.1.last (cell_or_fresh (value_at name old))) → KnowImages es base rows (kept_by old) → KnowImages es base rows (kept_by new)
redo_know es base rows old new name value at commit e over less before has know =
    let cell : Cell = cell_or_fresh (value_at name old) in
    changed_know es base rows old new name e (with_logged value at commit e.1.last cell) over has
    (λ lsn last.
    subst (λ (o : Option ℕ). shown_by (Some lsn) (with_logged value at commit o cell) ≡ shown_by (Some lsn) cell) (sym last) (logged_shown value at commit lsn cell (less lsn last))
    ∙ ap (λ (h : NameState). shown_held lsn h) (fresh_holds (value_at name old)))
    (λ is. logged_unset value at commit e.1.last cell is) (λ next low behind. subst (λ (n : ℕ). n ≤ next) (sym (logged_touched value at commit e.1.last cell)) (before next low behind)) know

-- the Commit that a redone change counts as
pub redo_above : (es : Placed) (base at commit : ℕ) (last : Option ℕ) → IsRedoneAt es base at → ((lsn : ℕ) → last ≡ Some lsn → IsBin (entry_at es lsn)) → IfSome last (λ l. l + 1 < 2 ^ 64 → l < commit) → (lsn : ℕ) → last ≡ Some lsn → lsn < commit
redo_above es base at commit None redone reads above lsn is = absurd (none-some lsn is)
redo_above es base at commit (Some l) redone reads above lsn is = subst (λ (n : ℕ). n < commit) (same_Some l lsn is) (above (redone.small l (reads l refl)))

pub redo_upto : (es : Placed) (base at commit : ℕ) (last : Option ℕ) → IsRedoneAt es base at → ((lsn : ℕ) → last ≡ Some lsn → IsBin (entry_at es lsn)) → ((next : ℕ) → at ≤ next → IfSome last (λ l. l < next) → commit ≤ next) →
    (next : ℕ) → base ≤ next → AllByRecursion (λ p. p.0 < next) es → commit ≤ next
redo_upto es base at commit last redone reads upto next low behind = upto next (le_trans redone.before low) (by_last last reads)
  where
    by_last : (o : Option ℕ) → ((lsn : ℕ) → o ≡ Some lsn → IsBin (entry_at es lsn)) → IfSome o (λ l. l < next)
    by_last None there = tt
    by_last (Some l) there = bin_before next es l behind (there l refl)
