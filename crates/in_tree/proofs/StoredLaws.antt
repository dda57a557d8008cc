-- What is committed in trees while a log is read again, and how it changes where one cell does.
use Rattle.std.proofs.Common.{◌≡◌, ◌==◌, ◌&&◌, ◌||◌, not, ◌⊎◌, ℕ, List, [], ◌∷◌, ◌++◌, Bool, true, false, cond, Option, None, Some, find, option_map, map, refl, ap, sym, subst, ◌∙◌, inl, inr, Less, is_eq, Box}
use Rattle.std.specs.Global.{Global}
use Rattle.std.specs.List.{AllByRecursion, list_any}
use Rattle.std.specs.List.Sorted.{IsStrictlySortedBy}
use Rattle.std.specs.Map.{keys_of}
use Rattle.std.specs.Ordering.{nat_cmp}
use Rattle.std.specs.BTreeMap.{get}
use Rattle.std.proofs.lemmas.Bool.{eq-eqb, true≢false}
use Rattle.std.proofs.lemmas.Option.{none-some, same_Some}
use Rattle.je_order.specs.Edges.Edge.{First}
use Rattle.je_order.specs.Order.{name_cmp}
use Rattle.je_order.specs.declared.name.Name.{Name}
use Rattle.node_core.specs.declared.slot.Version.{Version}
use Rattle.node_core.specs.declared.slot.Version.TheVariants.{There, Deleted, Unset}
use Rattle.record_map.specs.declared.cell.Cell.{Cell}
use Rattle.record_map.specs.declared.write.Write.{Write}
use Rattle.record_map.specs.Cells.{value_at, IsRising, from_edge}
use Rattle.record_map.proofs.NameLaws.{same_or_other, name_same, other_stays, same_gets}
use Rattle.record_tree.specs.Occupied.{Occupied, is_occupied, committed_value}
use Rattle.record_tree.specs.LoadedSlots.{AllRead, AllSlots, AreSlotsStill, HasGone, HasMoreSlots, HasPutSlot, IsReadStill, has_committed_slot, slot_gone, slot_put}
use Rattle.record_tree.specs.Stored.{Stored, stored_at, HasStored, AreStoredStill}
use Rattle.node_core.specs.Changes.{is_committed}
use Rattle.db_tree.specs.Loading.{deleted_cell, has_version, slot_read, GetsDeletions}
use Rattle.db_tree.specs.declared.tree.DbTree.{DbTree}
use Rattle.db_tree.specs.Trees.{HasCell, cell_or_fresh}
use Rattle.in_tree.specs.Forest.{Forest, cells_of, cells_at, cells_seen}
use Rattle.db_tree.specs.Seen.{occupied}
use Rattle.db_tree.specs.Stored.{with_logged, loaded_cell, version_logged, IsLoggedAlready}
use Rattle.db_tree.specs.Stored.{stored_by, stored_under, with_name, stored_in, AreQuiet, HasLogged}
use Rattle.in_tree.specs.Stored.{slots_held, stored_of, committed_cell, read_of, IsQuiet, IsSlotFor}
use Rattle.tree_nodes.proofs.RisingLists.{none_behind, same_lists}
use Rattle.in_tree.specs.Forest.{Replaces}
use Rattle.in_tree.proofs.Forests.{number_cases, replaced, others}

-- ---- the records of cells

-- each cell is behind the first edge
pub from_first : (cells : List (Name × Cell)) → from_edge First cells ≡ cells
from_first [] = refl
from_first (e ∷ cells) = ap (λ (l : List (Name × Cell)). e ∷ l) (from_first cells)

less_stored : (x : Name) (cells : List (Name × Cell)) → AllByRecursion (λ y. name_cmp x y ≡ Less) (keys_of cells) → AllByRecursion (λ y. name_cmp x y ≡ Less) (keys_of (stored_in cells))
less_stored x [] all = tt
less_stored x (e ∷ cells) all = by_stored (stored_by e.1.version e.1.«data») (less_stored x cells all.1)
  where
    by_stored : (o : Option Stored) → AllByRecursion (λ y. name_cmp x y ≡ Less) (keys_of (stored_in cells)) → AllByRecursion (λ y. name_cmp x y ≡ Less) (keys_of (with_name e.0 o ++ stored_in cells))
    by_stored None rest = rest
    by_stored (Some s) rest = (all.0, rest)

-- names with a record rise
pub stored_rises : (cells : List (Name × Cell)) → IsRising cells → IsRising (stored_in cells)
unfolding IsStrictlySortedBy
stored_rises [] up = tt
stored_rises (e ∷ cells) up = by_stored (stored_by e.1.version e.1.«data») (stored_rises cells up.1)
  where
    by_stored : (o : Option Stored) → IsStrictlySortedBy name_cmp (keys_of (stored_in cells)) → IsStrictlySortedBy name_cmp (keys_of (with_name e.0 o ++ stored_in cells))
    by_stored None rest = rest
    by_stored (Some s) rest = (less_stored e.0 cells up.0, rest)

-- what is committed of a name
pub stored_at_name : (cells : List (Name × Cell)) (x : Name) → IsRising cells → value_at x (stored_in cells) ≡ stored_under (value_at x cells)
unfolding IsStrictlySortedBy
stored_at_name [] x up = refl
stored_at_name (e ∷ cells) x up = by_name (same_or_other x e.0) (stored_at_name cells x up.1)
  where
    over : (o : Option Stored) → is_eq (name_cmp x e.0) ≡ false → value_at x (with_name e.0 o ++ stored_in cells) ≡ value_at x (stored_in cells)
    over None apart = refl
    over (Some s) apart = other_stays x e.0 (Some s) (value_at x (stored_in cells)) apart

    here : (o : Option Stored) → is_eq (name_cmp x e.0) ≡ true → value_at x (stored_in cells) ≡ None → value_at x (with_name e.0 o ++ stored_in cells) ≡ o
    here None equal none = none
    here (Some s) equal none = ap (λ (t : Bool). cond t (Some s) (value_at x (stored_in cells))) equal

    by_name : (x ≡ e.0) ⊎ (is_eq (name_cmp x e.0) ≡ false) → value_at x (stored_in cells) ≡ stored_under (value_at x cells) → value_at x (stored_in (e ∷ cells)) ≡ stored_under (value_at x (e ∷ cells))
    by_name (inl same) rest =
        let equal : is_eq (name_cmp x e.0) ≡ true = subst (λ (y : Name). is_eq (name_cmp x y) ≡ true) same (ap is_eq (name_same x)) in
        let none : value_at x cells ≡ None = subst (λ (y : Name). value_at y cells ≡ None) (sym same) (none_behind e.0 cells up.0) in
        here (stored_by e.1.version e.1.«data») equal (rest ∙ ap stored_under none) ∙ sym (ap (λ (t : Bool). stored_under (cond t (Some e.1) (value_at x cells))) equal)
    by_name (inr apart) rest =
        over (stored_by e.1.version e.1.«data») apart ∙ rest ∙ sym (ap stored_under (other_stays x e.0 (Some e.1) (value_at x cells) apart))

-- the first record that passes a test, and one that is passed over
pub first_found : (p : Name × Stored → Bool) (name : Name) (cell : Cell) (cells : List (Name × Cell)) → list_any p (with_name name (stored_by cell.version cell.«data»)) ≡ true →
    option_map (λ (r : Name × Stored). r.0) (find p (stored_in ((name, cell) ∷ cells))) ≡ Some name
first_found p name cell cells = by_stored (stored_by cell.version cell.«data»)
  where
    by_stored : (o : Option Stored) → list_any p (with_name name o) ≡ true → option_map (λ (r : Name × Stored). r.0) (find p (with_name name o ++ stored_in cells)) ≡ Some name
    by_stored None h = absurd (true≢false (sym h))
    by_stored (Some s) h = by_test (p (name, s)) h
      where
        by_test : (t : Bool) → (t || false) ≡ true → option_map (λ (r : Name × Stored). r.0) (cond t (Some (name, s)) (find p (stored_in cells))) ≡ Some name
        by_test true h = refl
        by_test false h = absurd (true≢false (sym h))

pub passed_over : (p : Name × Stored → Bool) (name : Name) (cell : Cell) (cells : List (Name × Cell)) → list_any p (with_name name (stored_by cell.version cell.«data»)) ≡ false →
    find p (stored_in ((name, cell) ∷ cells)) ≡ find p (stored_in cells)
passed_over p name cell cells = by_stored (stored_by cell.version cell.«data»)
  where
    by_stored : (o : Option Stored) → list_any p (with_name name o) ≡ false → find p (with_name name o ++ stored_in cells) ≡ find p (stored_in cells)
    by_stored None h = refl
    by_stored (Some s) h = by_test (p (name, s)) h
      where
        by_test : (t : Bool) → (t || false) ≡ false → cond t (Some (name, s)) (find p (stored_in cells)) ≡ find p (stored_in cells)
        by_test true h = absurd (true≢false h)
        by_test false h = refl

-- ---- what transactions see of them

abbrev IsSeen : Name → List ℕ → List (Name × Cell) → Version → Option (Box Write Global) → Type 0
IsSeen name value cells version write =
    cond (is_occupied (record { value = committed_value version value; write = option_map (λ (b : Box Write Global). b.value) write }))
    ((name, record { value = committed_value version value; write = option_map (λ (b : Box Write Global). b.value) write }) ∷ occupied cells) (occupied cells)
    ≡ map committed_cell (with_name name (stored_by version value) ++ stored_in cells)

seen_without_write : (name : Name) (value : List ℕ) (cells : List (Name × Cell)) (version : Version) → occupied cells ≡ map committed_cell (stored_in cells) → IsSeen name value cells version None
seen_without_write name value cells (There lsn) rest = ap (λ (l : List (Name × Occupied)). (name, record { value = Some value; write = None }) ∷ l) rest
seen_without_write name value cells Deleted rest = rest
seen_without_write name value cells Unset rest = rest

-- of cells without a change their records are seen
pub quiet_seen : (cells : List (Name × Cell)) → IsRising cells → ((x : Name) (cell : Cell) → value_at x cells ≡ Some cell → cell.write ≡ None) → occupied cells ≡ map committed_cell (stored_in cells)
unfolding IsStrictlySortedBy
quiet_seen [] up quiet = refl
quiet_seen (e ∷ cells) up quiet =
    subst (IsSeen e.0 e.1.«data» cells e.1.version) (sym (quiet e.0 e.1 (same_gets e.0 (Some e.1) (value_at e.0 cells))))
    (seen_without_write e.0 e.1.«data» cells e.1.version (quiet_seen cells up.1 (λ x cell found. quiet x cell (behind x cell found (same_or_other x e.0)))))
  where
    behind : (x : Name) (cell : Cell) → value_at x cells ≡ Some cell → (x ≡ e.0) ⊎ (is_eq (name_cmp x e.0) ≡ false) → value_at x (e ∷ cells) ≡ Some cell
    behind x cell found (inl same) = absurd (none-some cell (sym (subst (λ (y : Name). value_at y cells ≡ None) (sym same) (none_behind e.0 cells up.0)) ∙ found))
    behind x cell found (inr apart) = other_stays x e.0 (Some e.1) (value_at x cells) apart ∙ found

-- ---- a cell changes

pub stored_change : (old new : List (Name × Cell)) (name : Name) (cell : Cell) → IsRising old → IsRising new → HasCell old new name cell →
    (x : Name) → value_at x (stored_in new) ≡ cond (is_eq (name_cmp name x)) (stored_by cell.version cell.«data») (value_at x (stored_in old))
stored_change old new name cell up_old up_new has x = stored_at_name new x up_new ∙ ap stored_under (has x) ∙ by_test (is_eq (name_cmp name x))
  where
    by_test : (t : Bool) → stored_under (cond t (Some cell) (value_at x old)) ≡ cond t (stored_by cell.version cell.«data») (value_at x (stored_in old))
    by_test true = refl
    by_test false = sym (stored_at_name old x up_old)

pub quiet_change : (old new : List (Name × Cell)) (name : Name) (cell : Cell) → AreQuiet old → IsRising new → HasCell old new name cell → cell.write ≡ None → AreQuiet new
quiet_change old new name cell quiet up_new has none = record { rising = up_new; quiet = λ x c found. by_test x c (is_eq (name_cmp name x)) (sym (has x) ∙ found) }
  where
    by_test : (x : Name) (c : Cell) (t : Bool) → cond t (Some cell) (value_at x old) ≡ Some c → c.write ≡ None
    by_test x c true is = subst (λ (k : Cell). k.write ≡ None) (same_Some cell c is) none
    by_test x c false is = quiet.quiet x c is

-- ---- what was committed of a name

logged_is : (value : Option (List ℕ)) (lsn commit : ℕ) (last : Option ℕ) (cell : Cell) → stored_by (with_logged value lsn commit last cell).version (with_logged value lsn commit last cell).«data» ≡ stored_at lsn value
logged_is None lsn commit last cell = refl
logged_is (Some value) lsn commit last cell = refl

logged_write : (value : Option (List ℕ)) (lsn commit : ℕ) (last : Option ℕ) (cell : Cell) → (with_logged value lsn commit last cell).write ≡ cell.write
logged_write None lsn commit last cell = refl
logged_write (Some value) lsn commit last cell = refl

quiet_or_fresh : (old : List (Name × Cell)) (name : Name) → AreQuiet old → (cell_or_fresh (value_at name old)).write ≡ None
quiet_or_fresh old name quiet = by_cell (value_at name old) refl
  where
    by_cell : (o : Option Cell) → value_at name old ≡ o → (cell_or_fresh o).write ≡ None
    by_cell None is = refl
    by_cell (Some cell) is = quiet.quiet name cell is

pub logged_change : (old new : List (Name × Cell)) (name : Name) (value : Option (List ℕ)) (lsn : ℕ) → IsRising old → IsRising new → HasLogged old new name value lsn →
    (x : Name) → value_at x (stored_in new) ≡ cond (is_eq (name_cmp name x)) (stored_at lsn value) (value_at x (stored_in old))
logged_change old new name value lsn up_old up_new logged x =
    let before : Cell = cell_or_fresh (value_at name old) in
    stored_change old new name (with_logged value lsn logged.commit logged.last before) up_old up_new logged.cell x
    ∙ ap (λ (s : Option Stored). cond (is_eq (name_cmp name x)) s (value_at x (stored_in old))) (logged_is value lsn logged.commit logged.last before)

pub logged_quiet : (old new : List (Name × Cell)) (name : Name) (value : Option (List ℕ)) (lsn : ℕ) → IsRising new → HasLogged old new name value lsn → AreQuiet old → AreQuiet new
logged_quiet old new name value lsn up_new logged quiet =
    let before : Cell = cell_or_fresh (value_at name old) in
    quiet_change old new name (with_logged value lsn logged.commit logged.last before) quiet up_new logged.cell (logged_write value lsn logged.commit logged.last before ∙ quiet_or_fresh old name quiet)

-- ---- the trees of all databases

pub slot_made : (x : Name) (old new : List (Name × Cell)) → HasCell old new x (cell_or_fresh (value_at x old)) → IsSlotFor x old new
slot_made x old new has = record {
  here = ap cell_or_fresh (has x ∙ same_gets x (Some (cell_or_fresh (value_at x old))) (value_at x old));
  others = λ y apart. has y ∙ other_stays x y (Some (cell_or_fresh (value_at x old))) (value_at y old) apart;
}

pub slot_logged : (old mid new : List (Name × Cell)) (x : Name) (value : Option (List ℕ)) (lsn : ℕ) → IsSlotFor x old mid → HasLogged mid new x value lsn → HasLogged old new x value lsn
slot_logged old mid new x value lsn slot logged = record {
  commit = logged.commit;
  last = logged.last;
  cell = subst (λ (c : Cell). HasCell old new x (with_logged value lsn logged.commit logged.last c)) slot.here
      (λ y. logged.cell y ∙ by_name y (same_or_other x y));
}
  where
    now : Cell
    now = with_logged value lsn logged.commit logged.last (cell_or_fresh (value_at x mid))

    by_name : (y : Name) → (x ≡ y) ⊎ (is_eq (name_cmp x y) ≡ false) →
        cond (is_eq (name_cmp x y)) (Some (with_logged value lsn logged.commit logged.last (cell_or_fresh (value_at x mid)))) (value_at y mid)
        ≡ cond (is_eq (name_cmp x y)) (Some (with_logged value lsn logged.commit logged.last (cell_or_fresh (value_at x mid)))) (value_at y old)
    by_name y (inl same) =
        subst
        (λ (z : Name). cond (is_eq (name_cmp x z)) (Some (with_logged value lsn logged.commit logged.last (cell_or_fresh (value_at x mid)))) (value_at z mid)
        ≡ cond (is_eq (name_cmp x z)) (Some (with_logged value lsn logged.commit logged.last (cell_or_fresh (value_at x mid)))) (value_at z old)) same
        (same_gets x (Some (with_logged value lsn logged.commit logged.last (cell_or_fresh (value_at x mid)))) (value_at x mid)
        ∙ sym (same_gets x (Some (with_logged value lsn logged.commit logged.last (cell_or_fresh (value_at x mid)))) (value_at x old)))
    by_name y (inr apart) = ap (λ (o : Option Cell). cond (is_eq (name_cmp x y)) (Some (with_logged value lsn logged.commit logged.last (cell_or_fresh (value_at x mid)))) o) (slot.others y apart)

pub slot_quiet : (old new : List (Name × Cell)) (x : Name) → IsSlotFor x old new → IsRising new → AreQuiet old → AreQuiet new
slot_quiet old new x slot up quiet = record { rising = up; quiet = λ y c found. by_name y c found (same_or_other x y) }
  where
    of_cell : (o : Option Cell) (c : Cell) → o ≡ Some c → c ≡ cell_or_fresh o
    of_cell None c is = absurd (none-some c is)
    of_cell (Some e) c is = sym (same_Some e c is)

    by_name : (y : Name) (c : Cell) → value_at y new ≡ Some c → (x ≡ y) ⊎ (is_eq (name_cmp x y) ≡ false) → c.write ≡ None
    by_name y c found (inl same) =
        ap (λ (e : Cell). e.write) (of_cell (value_at x new) c (subst (λ (z : Name). value_at z new ≡ Some c) (sym same) found) ∙ slot.here) ∙ quiet_or_fresh old x quiet
    by_name y c found (inr apart) = quiet.quiet y c (sym (slot.others y apart) ∙ found)

pub none_quiet : AreQuiet []
unfolding IsStrictlySortedBy
none_quiet = record { rising = tt; quiet = λ x cell found. absurd (none-some cell found) }

apart_cases : (db d : ℕ) → (db ≡ d) ⊎ ((db == d ≡ false) × (is_eq (nat_cmp db d) ≡ false))
apart_cases db d = by_number (number_cases db d) (number_cases d db)
  where
    by_number : (db ≡ d) ⊎ ((d == db ≡ false) × (is_eq (nat_cmp db d) ≡ false)) → (d ≡ db) ⊎ ((db == d ≡ false) × (is_eq (nat_cmp d db) ≡ false)) → (db ≡ d) ⊎ ((db == d ≡ false) × (is_eq (nat_cmp db d) ≡ false))
    by_number (inl same) back = inl same
    by_number (inr apart) (inl same) = inl (sym same)
    by_number (inr apart) (inr back) = inr (back.0, apart.1)

-- one name of one database has another record, or none
pub stored_forest : (old new : Forest) (db : ℕ) (o : Option DbTree) (name : Name) (s : Option Stored) → Replaces old new db o →
    ((x : Name) → value_at x (stored_in (cells_of o)) ≡ cond (is_eq (name_cmp name x)) s (value_at x (stored_of old db))) → HasStored (stored_of old) (stored_of new) db name s
stored_forest old new db o name s has is d x = by_number (apart_cases db d)
  where
    by_number : (db ≡ d) ⊎ ((db == d ≡ false) × (is_eq (nat_cmp db d) ≡ false)) → value_at x (stored_of new d) ≡ cond (db == d && is_eq (name_cmp name x)) s (value_at x (stored_of old d))
    by_number (inl same) =
        subst (λ (e : ℕ). value_at x (stored_of new e) ≡ cond (db == e && is_eq (name_cmp name x)) s (value_at x (stored_of old e))) same
        (ap (λ (t : Option DbTree). value_at x (stored_in (cells_of t))) (replaced old new db o has)
        ∙ is x
        ∙ sym (ap (λ (t : Bool). cond (t && is_eq (name_cmp name x)) s (value_at x (stored_of old db))) (eq-eqb db db refl)))
    by_number (inr apart) =
        ap (λ (t : Option DbTree). value_at x (stored_in (cells_of t))) (others old new db o has d apart.1)
        ∙ sym (ap (λ (t : Bool). cond (t && is_eq (name_cmp name x)) s (value_at x (stored_of old d))) apart.0)

-- the same by what was written over a tree
pub stored_put : (old new : Forest) (db : ℕ) (before after : DbTree) (name : Name) (s : Option Stored) → Some before ≡ get nat_cmp old db → Replaces old new db (Some after) →
    ((x : Name) → value_at x (stored_in after.cells) ≡ cond (is_eq (name_cmp name x)) s (value_at x (stored_in before.cells))) → HasStored (stored_of old) (stored_of new) db name s
stored_put old new db before after name s there has is =
    stored_forest old new db (Some after) name s has
    (subst (λ (o : Option DbTree). (x : Name) → value_at x (stored_in after.cells) ≡ cond (is_eq (name_cmp name x)) s (value_at x (stored_in (cells_of o)))) there is)

-- nor where a tree that was written over has the same records
pub stored_still : (old new : Forest) (db : ℕ) (before after : DbTree) → Some before ≡ get nat_cmp old db → Replaces old new db (Some after) → stored_in after.cells ≡ stored_in before.cells → AreStoredStill (stored_of old) (stored_of new)
stored_still old new db before after there has same d = by_number (number_cases db d)
  where
    by_number : (db ≡ d) ⊎ ((d == db ≡ false) × (is_eq (nat_cmp db d) ≡ false)) → stored_of new d ≡ stored_of old d
    by_number (inl is) =
        subst (λ (e : ℕ). stored_of new e ≡ stored_of old e) is
        (ap (λ (t : Option DbTree). stored_in (cells_of t)) (replaced old new db (Some after) has) ∙ same ∙ ap (λ (t : Option DbTree). stored_in (cells_of t)) there)
    by_number (inr apart) = ap (λ (t : Option DbTree). stored_in (cells_of t)) (others old new db (Some after) has d apart.1)

-- trees stay quiet where the new cells of one database are
pub forest_quiet : (old new : Forest) (db : ℕ) (o : Option DbTree) → Replaces old new db o → AreQuiet (cells_of o) → IsQuiet old → IsQuiet new
forest_quiet old new db o has now quiet d = by_number (number_cases db d)
  where
    by_number : (db ≡ d) ⊎ ((d == db ≡ false) × (is_eq (nat_cmp db d) ≡ false)) → AreQuiet (cells_at new d)
    by_number (inl is) = subst (λ (e : ℕ). AreQuiet (cells_at new e)) is (subst (λ (t : Option DbTree). AreQuiet (cells_of t)) (sym (replaced old new db o has)) now)
    by_number (inr apart) = subst (λ (t : Option DbTree). AreQuiet (cells_of t)) (sym (others old new db o has d apart.1)) (quiet d)

-- each database's records are what is seen of it
pub forest_seen : (forest : Forest) → IsQuiet forest → (d : ℕ) → cells_seen forest d ≡ map committed_cell (stored_of forest d)
forest_seen forest quiet d = quiet_seen (cells_at forest d) (quiet d).rising (quiet d).quiet

pub forest_rises : (forest : Forest) → IsQuiet forest → (d : ℕ) → IsRising (stored_of forest d)
forest_rises forest quiet d = stored_rises (cells_at forest d) (quiet d).rising

-- trees stay quiet where a tree that was written over does
pub quiet_put : (old new : Forest) (db : ℕ) (before after : DbTree) → Some before ≡ get nat_cmp old db → Replaces old new db (Some after) → (AreQuiet before.cells → AreQuiet after.cells) → IsQuiet old → IsQuiet new
quiet_put old new db before after there has keeps quiet = forest_quiet old new db (Some after) has (keeps (subst (λ (o : Option DbTree). AreQuiet (cells_of o)) (sym there) (quiet db))) quiet

-- the cells of a database that has a tree, from the first edge on
pub cells_from_first : (forest : Forest) (db : ℕ) (tree : DbTree) → Some tree ≡ get nat_cmp forest db → from_edge First tree.cells ≡ cells_at forest db
cells_from_first forest db tree there = from_first tree.cells ∙ ap cells_of there

-- ---- slots

or_false : (b : Bool) → (b || false) ≡ b
or_false true = refl
or_false false = refl

or_true : (b : Bool) → (b || true) ≡ true
or_true true = refl
or_true false = refl

-- names that get slots of records that were deleted get no record
pub deletions_stored : (shown : Name → Bool) (at : ℕ) (old new : List (Name × Cell)) → IsRising old → IsRising new → GetsDeletions shown at old new → stored_in new ≡ stored_in old
deletions_stored shown at old new up_old up_new got =
    same_lists (stored_in new) (stored_in old) (stored_rises new up_new) (stored_rises old up_old)
    (λ x. stored_at_name new x up_new ∙ ap stored_under (got x) ∙ none_more (shown x) (has_version (value_at x old)) (value_at x old) refl ∙ sym (stored_at_name old x up_old))
  where
    by_version : (version : Version) (value : List ℕ) → is_committed version ≡ false → stored_by version value ≡ None
    by_version (There lsn) value is = absurd (true≢false is)
    by_version Deleted value is = absurd (true≢false is)
    by_version Unset value is = refl

    unshown : (o : Option Cell) → has_version o ≡ false → stored_under o ≡ None
    unshown None is = refl
    unshown (Some cell) is = by_version cell.version cell.«data» is

    none_more : (t h : Bool) (o : Option Cell) → has_version o ≡ h → stored_under (cond (t && not h) (Some (deleted_cell at)) o) ≡ stored_under o
    none_more false h o is = refl
    none_more true true o is = refl
    none_more true false o is = sym (unshown o is)

pub deletions_quiet : (shown : Name → Bool) (at : ℕ) (old new : List (Name × Cell)) → IsRising new → GetsDeletions shown at old new → AreQuiet old → AreQuiet new
deletions_quiet shown at old new up_new got quiet = record { rising = up_new; quiet = λ x c found. by_test x c (shown x && not (has_version (value_at x old))) (sym (got x) ∙ found) }
  where
    by_test : (x : Name) (c : Cell) (t : Bool) → cond t (Some (deleted_cell at)) (value_at x old) ≡ Some c → c.write ≡ None
    by_test x c true is = subst (λ (k : Cell). k.write ≡ None) (same_Some (deleted_cell at) c is) refl
    by_test x c false is = quiet.quiet x c is

-- which names have a slot then
pub deletions_slots : (shown : Name → Bool) (at : ℕ) (old new : List (Name × Cell)) → GetsDeletions shown at old new → (x : Name) → has_version (value_at x new) ≡ (has_version (value_at x old) || shown x)
deletions_slots shown at old new got x = ap has_version (got x) ∙ by_tests (shown x) (has_version (value_at x old)) (value_at x old) refl
  where
    by_tests : (t h : Bool) (o : Option Cell) → has_version o ≡ h → has_version (cond (t && not h) (Some (deleted_cell at)) o) ≡ (h || t)
    by_tests false h o is = is ∙ sym (or_false h)
    by_tests true true o is = is
    by_tests true false o is = refl

pub slots_change : (old new : List (Name × Cell)) (name : Name) (cell : Cell) → is_committed cell.version ≡ true → HasCell old new name cell → (x : Name) →
    has_version (value_at x new) ≡ (has_version (value_at x old) || is_eq (name_cmp name x))
slots_change old new name cell shown has x = ap has_version (has x) ∙ by_test (is_eq (name_cmp name x))
  where
    by_test : (t : Bool) → has_version (cond t (Some cell) (value_at x old)) ≡ (has_version (value_at x old) || t)
    by_test true = shown ∙ sym (or_true (has_version (value_at x old)))
    by_test false = sym (or_false (has_version (value_at x old)))

logged_shown : (value : Option (List ℕ)) (lsn commit : ℕ) (last : Option ℕ) (cell : Cell) → is_committed (with_logged value lsn commit last cell).version ≡ true
logged_shown None lsn commit last cell = refl
logged_shown (Some value) lsn commit last cell = refl

pub slots_logged : (old new : List (Name × Cell)) (name : Name) (value : Option (List ℕ)) (lsn : ℕ) → HasLogged old new name value lsn → (x : Name) →
    has_version (value_at x new) ≡ (has_version (value_at x old) || is_eq (name_cmp name x))
slots_logged old new name value lsn logged =
    let before : Cell = cell_or_fresh (value_at name old) in
    slots_change old new name (with_logged value lsn logged.commit logged.last before) (logged_shown value lsn logged.commit logged.last before) logged.cell

-- names of one database get slots
pub slots_put : (old new : Forest) (db : ℕ) (before after : DbTree) (got : Name → Bool) → Some before ≡ get nat_cmp old db → Replaces old new db (Some after) →
    ((x : Name) → has_version (value_at x after.cells) ≡ (has_version (value_at x before.cells) || got x)) → HasMoreSlots (slots_held old) (slots_held new) db got
slots_put old new db before after got there has is d x = by_number (apart_cases db d)
  where
    here : slots_held new db x ≡ (slots_held old db x || got x)
    here =
        ap (λ (t : Option DbTree). has_version (value_at x (cells_of t))) (replaced old new db (Some after) has)
        ∙ is x
        ∙ ap (λ (t : Option DbTree). has_version (value_at x (cells_of t)) || got x) there

    by_number : (db ≡ d) ⊎ ((db == d ≡ false) × (is_eq (nat_cmp db d) ≡ false)) → slots_held new d x ≡ (slots_held old d x || ((db == d) && got x))
    by_number (inl same) =
        subst (λ (e : ℕ). slots_held new e x ≡ (slots_held old e x || ((db == e) && got x))) same (here ∙ sym (ap (λ (t : Bool). slots_held old db x || (t && got x)) (eq-eqb db db refl)))
    by_number (inr apart) =
        ap (λ (t : Option DbTree). has_version (value_at x (cells_of t))) (others old new db (Some after) has d apart.1)
        ∙ sym (ap (λ (t : Bool). slots_held old d x || (t && got x)) apart.0 ∙ or_false (slots_held old d x))

-- no slot changes where the cells of one database are as before
pub slots_still : (old new : Forest) (db : ℕ) (o : Option DbTree) → Replaces old new db o → cells_of o ≡ cells_at old db → AreSlotsStill (slots_held old) (slots_held new)
slots_still old new db o has same d x = by_number (number_cases db d)
  where
    by_number : (db ≡ d) ⊎ ((d == db ≡ false) × (is_eq (nat_cmp db d) ≡ false)) → slots_held new d x ≡ slots_held old d x
    by_number (inl is) =
        subst (λ (e : ℕ). slots_held new e x ≡ slots_held old e x) is
        (ap (λ (t : Option DbTree). has_version (value_at x (cells_of t))) (replaced old new db o has) ∙ ap (λ (cells : List (Name × Cell)). has_version (value_at x cells)) same)
    by_number (inr apart) = ap (λ (t : Option DbTree). has_version (value_at x (cells_of t))) (others old new db o has d apart.1)

-- a tree is made first
pub slots_then : (a b c : AllSlots) (db : ℕ) (got : Name → Bool) → AreSlotsStill a b → HasMoreSlots b c db got → HasMoreSlots a c db got
slots_then a b c db got first next d x = next d x ∙ ap (λ (t : Bool). t || ((db == d) && got x)) (first d x)

-- ---- what is read of names

read_slot : (o : Option Cell) → has_committed_slot (option_map slot_read o) ≡ has_version o
read_slot None = refl
read_slot (Some cell) = refl

-- names of a database get the slots of records that were deleted
pub read_gone : (old new : Forest) (db : ℕ) (before after : DbTree) (got : Name → Bool) (at : ℕ) → Some before ≡ get nat_cmp old db → Replaces old new db (Some after) → GetsDeletions got at before.cells after.cells →
    HasGone (read_of old) (read_of new) db got at
read_gone old new db before after got at there has gets d x = by_number (apart_cases db d)
  where
    by_test : (t : Bool) (o : Option Cell) → option_map slot_read (cond t (Some (deleted_cell at)) o) ≡ cond t (Some (slot_gone at)) (option_map slot_read o)
    by_test true o = refl
    by_test false o = refl

    here : read_of new db x ≡ cond (got x && not (has_committed_slot (read_of old db x))) (Some (slot_gone at)) (read_of old db x)
    here =
        ap (λ (t : Option DbTree). option_map slot_read (value_at x (cells_of t))) (replaced old new db (Some after) has)
        ∙ ap (option_map slot_read) (gets x)
        ∙ by_test (got x && not (has_version (value_at x before.cells))) (value_at x before.cells)
        ∙ sym (ap (λ (t : Bool). cond (got x && not t) (Some (slot_gone at)) (option_map slot_read (value_at x before.cells))) (read_slot (value_at x before.cells)))
        ∙ ap (λ (t : Option DbTree). cond (got x && not (has_committed_slot (option_map slot_read (value_at x (cells_of t))))) (Some (slot_gone at)) (option_map slot_read (value_at x (cells_of t)))) there

    by_number : (db ≡ d) ⊎ ((db == d ≡ false) × (is_eq (nat_cmp db d) ≡ false)) → read_of new d x ≡ cond ((db == d) && (got x && not (has_committed_slot (read_of old d x)))) (Some (slot_gone at)) (read_of old d x)
    by_number (inl same) =
        subst (λ (e : ℕ). read_of new e x ≡ cond ((db == e) && (got x && not (has_committed_slot (read_of old e x)))) (Some (slot_gone at)) (read_of old e x)) same
        (here ∙ sym (ap (λ (t : Bool). cond (t && (got x && not (has_committed_slot (read_of old db x)))) (Some (slot_gone at)) (read_of old db x)) (eq-eqb db db refl)))
    by_number (inr apart) =
        ap (λ (t : Option DbTree). option_map slot_read (value_at x (cells_of t))) (others old new db (Some after) has d apart.1)
        ∙ sym (ap (λ (t : Bool). cond (t && (got x && not (has_committed_slot (read_of old d x)))) (Some (slot_gone at)) (read_of old d x)) apart.0)

-- a name of a database gets the slot of a record
pub read_put : (old new : Forest) (db : ℕ) (before after : DbTree) (name : Name) (at : ℕ) (value : List ℕ) → Some before ≡ get nat_cmp old db → Replaces old new db (Some after) → HasCell before.cells after.cells name (loaded_cell at value) →
    HasPutSlot (read_of old) (read_of new) db name at
read_put old new db before after name at value there has cell d x = by_number (apart_cases db d)
  where
    by_test : (t : Bool) (o : Option Cell) → option_map slot_read (cond t (Some (loaded_cell at value)) o) ≡ cond t (Some (slot_put at)) (option_map slot_read o)
    by_test true o = refl
    by_test false o = refl

    here : read_of new db x ≡ cond (is_eq (name_cmp name x)) (Some (slot_put at)) (read_of old db x)
    here =
        ap (λ (t : Option DbTree). option_map slot_read (value_at x (cells_of t))) (replaced old new db (Some after) has)
        ∙ ap (option_map slot_read) (cell x)
        ∙ by_test (is_eq (name_cmp name x)) (value_at x before.cells)
        ∙ ap (λ (t : Option DbTree). cond (is_eq (name_cmp name x)) (Some (slot_put at)) (option_map slot_read (value_at x (cells_of t)))) there

    by_number : (db ≡ d) ⊎ ((db == d ≡ false) × (is_eq (nat_cmp db d) ≡ false)) → read_of new d x ≡ cond ((db == d) && is_eq (name_cmp name x)) (Some (slot_put at)) (read_of old d x)
    by_number (inl same) =
        subst (λ (e : ℕ). read_of new e x ≡ cond ((db == e) && is_eq (name_cmp name x)) (Some (slot_put at)) (read_of old e x)) same
        (here ∙ sym (ap (λ (t : Bool). cond (t && is_eq (name_cmp name x)) (Some (slot_put at)) (read_of old db x)) (eq-eqb db db refl)))
    by_number (inr apart) =
        ap (λ (t : Option DbTree). option_map slot_read (value_at x (cells_of t))) (others old new db (Some after) has d apart.1)
        ∙ sym (ap (λ (t : Bool). cond (t && is_eq (name_cmp name x)) (Some (slot_put at)) (read_of old d x)) apart.0)

-- a tree is made first
pub read_then : (a b c : AllRead) (db : ℕ) (got : Name → Bool) (at : ℕ) → IsReadStill a b → HasGone b c db got at → HasGone a c db got at
read_then a b c db got at first next d x = next d x ∙ ap (λ r. cond ((db == d) && (got x && not (has_committed_slot r))) (Some (slot_gone at)) r) (first d x)

-- ---- a change that is redone

-- a name with a slot of which the record is as it was logged, or deleted
pub logged_already : (cells : List (Name × Cell)) (name : Name) (at : ℕ) (value : Option (List ℕ)) → has_version (value_at name cells) ≡ true → stored_under (value_at name cells) ≡ stored_at at value → IsLoggedAlready cells name at value
logged_already cells name at value = by_cell (value_at name cells)
  where
    by_version : (version : Version) (own : List ℕ) (logged : Option (List ℕ)) → is_committed version ≡ true → stored_by version own ≡ stored_at at logged → version ≡ version_logged at logged
    by_version (There lsn) own (Some v) shown same = ap (λ (s : Stored). There s.at) (same_Some (record { at = lsn; value = own }) (record { at = at; value = v }) same)
    by_version (There lsn) own None shown same = absurd (none-some (record { at = lsn; value = own }) (sym same))
    by_version Deleted own (Some v) shown same = absurd (none-some (record { at = at; value = v }) same)
    by_version Deleted own None shown same = refl
    by_version Unset own logged shown same = absurd (true≢false (sym shown))

    by_cell : (o : Option Cell) → has_version o ≡ true → stored_under o ≡ stored_at at value → (cell_or_fresh o).version ≡ version_logged at value
    by_cell None shown same = absurd (true≢false (sym shown))
    by_cell (Some cell) shown same = by_version cell.version cell.«data» value shown same
