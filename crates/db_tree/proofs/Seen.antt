-- What transactions see of cells.
use Rattle.std.proofs.Common.{◌≡◌, ◌⊎◌, ℕ, List, [], ◌∷◌, Bool, true, false, cond, Option, None, Some, IsSome, option_map, is_some, refl, ap, ap₂, sym, subst, ◌∙◌, inl, inr, Less, is_eq, Box}
use Rattle.std.specs.Global.{Global}
use Rattle.std.specs.List.{AllByRecursion}
use Rattle.std.specs.List.Sorted.{IsStrictlySortedBy}
use Rattle.std.specs.Map.{keys_of}
use Rattle.std.proofs.lemmas.Bool.{true≢false}
use Rattle.je_order.specs.Order.{name_cmp}
use Rattle.je_order.specs.declared.name.Name.{Name}
use Rattle.node_core.specs.declared.slot.Version.{Version}
use Rattle.node_core.specs.declared.slot.Version.TheVariants.{There, Deleted, Unset}
use Rattle.node_core.specs.Changes.{is_committed}
use Rattle.record_map.specs.declared.cell.Cell.{Cell}
use Rattle.record_map.specs.declared.write.Write.{Write}
use Rattle.record_map.specs.Cells.{value_at, IsRising, committed, with_committed, with_write, committed_by}
use Rattle.record_map.proofs.NameLaws.{same_or_other, name_same, other_stays}
use Rattle.record_tree.specs.Occupied.{Occupied, occupied_by, is_occupied, if_occupied, after_commit, after_abort, value_in, write_in, committed_value}
use Rattle.db_tree.specs.Trees.{HasCell, cell_or_fresh, given_up}
use Rattle.db_tree.specs.Seen.{occupied, seen, with_change, with_value}
use Rattle.db_tree.specs.Stored.{with_logged}
use Rattle.tree_nodes.proofs.RisingLists.{none_behind, same_lists}

-- ---- what is seen

less_kept : (x : Name) (cells : List (Name × Cell)) → AllByRecursion (λ y. name_cmp x y ≡ Less) (keys_of cells) → AllByRecursion (λ y. name_cmp x y ≡ Less) (keys_of (occupied cells))
less_kept x [] all = tt
less_kept x (e ∷ cells) all = by_test (is_occupied (occupied_by e.1)) (less_kept x cells all.1)
  where
    by_test : (t : Bool) → AllByRecursion (λ y. name_cmp x y ≡ Less) (keys_of (occupied cells)) →
        AllByRecursion (λ y. name_cmp x y ≡ Less) (keys_of (cond t ((e.0, occupied_by e.1) ∷ occupied cells) (occupied cells)))
    by_test true rest = (all.0, rest)
    by_test false rest = rest

-- names that are occupied rise
pub occupied_rises : (cells : List (Name × Cell)) → IsRising cells → IsRising (occupied cells)
unfolding IsStrictlySortedBy
occupied_rises [] up = tt
occupied_rises (e ∷ cells) up = by_test (is_occupied (occupied_by e.1)) (occupied_rises cells up.1)
  where
    by_test : (t : Bool) → IsStrictlySortedBy name_cmp (keys_of (occupied cells)) → IsStrictlySortedBy name_cmp (keys_of (cond t ((e.0, occupied_by e.1) ∷ occupied cells) (occupied cells)))
    by_test true rest = (less_kept e.0 cells up.0, rest)
    by_test false rest = rest

pub none_rise : IsRising {V = Occupied} []
unfolding IsStrictlySortedBy
none_rise = tt

-- what is seen of a name
pub seen_at : (cells : List (Name × Cell)) (x : Name) → IsRising cells → value_at x (occupied cells) ≡ seen (value_at x cells)
unfolding IsStrictlySortedBy
seen_at [] x up = refl
seen_at (e ∷ cells) x up = by_name (same_or_other x e.0) (seen_at cells x up.1)
  where
    over_test : (t : Bool) → is_eq (name_cmp x e.0) ≡ false → value_at x (cond t ((e.0, occupied_by e.1) ∷ occupied cells) (occupied cells)) ≡ value_at x (occupied cells)
    over_test true apart = other_stays x e.0 (Some (occupied_by e.1)) (value_at x (occupied cells)) apart
    over_test false apart = refl

    at_test : (t : Bool) → is_eq (name_cmp x e.0) ≡ true → value_at x (occupied cells) ≡ None → value_at x (cond t ((e.0, occupied_by e.1) ∷ occupied cells) (occupied cells)) ≡ cond t (Some (occupied_by e.1)) None
    at_test true equal none = ap (λ (t : Bool). cond t (Some (occupied_by e.1)) (value_at x (occupied cells))) equal
    at_test false equal none = none

    by_name : (x ≡ e.0) ⊎ (is_eq (name_cmp x e.0) ≡ false) → value_at x (occupied cells) ≡ seen (value_at x cells) → value_at x (occupied (e ∷ cells)) ≡ seen (value_at x (e ∷ cells))
    by_name (inl same) rest =
        let equal : is_eq (name_cmp x e.0) ≡ true = subst (λ (y : Name). is_eq (name_cmp x y) ≡ true) same (ap is_eq (name_same x)) in
        let none : value_at x cells ≡ None = subst (λ (y : Name). value_at y cells ≡ None) (sym same) (none_behind e.0 cells up.0) in
        at_test (is_occupied (occupied_by e.1)) equal (rest ∙ ap seen none) ∙ sym (ap (λ (t : Bool). seen (cond t (Some e.1) (value_at x cells))) equal)
    by_name (inr apart) rest =
        over_test (is_occupied (occupied_by e.1)) apart ∙ rest ∙ sym (ap seen (other_stays x e.0 (Some e.1) (value_at x cells) apart))

-- cells of which the same is seen
pub same_seen : (old new : List (Name × Cell)) → IsRising old → IsRising new → ((x : Name) → seen (value_at x new) ≡ seen (value_at x old)) → occupied new ≡ occupied old
same_seen old new up_old up_new same =
    same_lists (occupied new) (occupied old) (occupied_rises new up_new) (occupied_rises old up_old) (λ x. seen_at new x up_new ∙ same x ∙ sym (seen_at old x up_old))

-- a cell changes, and what is seen of it
pub change_seen : (old new : List (Name × Cell)) (name : Name) (raw : Option Cell) (change : Option Occupied → Option Occupied) → IsRising old → IsRising new →
    ((x : Name) → value_at x new ≡ cond (is_eq (name_cmp name x)) raw (value_at x old)) → seen raw ≡ change (seen (value_at name old)) →
    (x : Name) → value_at x (occupied new) ≡ cond (is_eq (name_cmp name x)) (change (value_at x (occupied old))) (value_at x (occupied old))
change_seen old new name raw change up_old up_new has is x = seen_at new x up_new ∙ ap seen (has x) ∙ by_name (same_or_other name x)
  where
    by_name : (name ≡ x) ⊎ (is_eq (name_cmp name x) ≡ false) →
        seen (cond (is_eq (name_cmp name x)) raw (value_at x old)) ≡ cond (is_eq (name_cmp name x)) (change (value_at x (occupied old))) (value_at x (occupied old))
    by_name (inl same) =
        let equal : is_eq (name_cmp name x) ≡ true = subst (λ (y : Name). is_eq (name_cmp name y) ≡ true) same (ap is_eq (name_same name)) in
        ap (λ (t : Bool). seen (cond t raw (value_at x old))) equal
        ∙ is
        ∙ ap change (ap (λ (y : Name). seen (value_at y old)) same ∙ sym (seen_at old x up_old))
        ∙ sym (ap (λ (t : Bool). cond t (change (value_at x (occupied old))) (value_at x (occupied old))) equal)
    by_name (inr apart) =
        ap seen (other_stays name x raw (value_at x old) apart)
        ∙ sym (seen_at old x up_old)
        ∙ sym (other_stays name x (change (value_at x (occupied old))) (value_at x (occupied old)) apart)

-- ---- what is seen of a cell that changed

value_seen : (o : Occupied) → value_in (if_occupied o) ≡ o.value
value_seen o = by_value o.value o.write refl refl
  where
    by_value : (v : Option (List ℕ)) (w : Option Write) → o.value ≡ v → o.write ≡ w → value_in (if_occupied o) ≡ o.value
    by_value (Some v) w is_v is_w = ap (λ (t : Option (List ℕ)). value_in (cond (is_occupied (record { value = t; write = o.write })) (Some o) None)) is_v
    by_value None (Some w) is_v is_w = ap₂ (λ (t : Option (List ℕ)) (u : Option Write). value_in (cond (is_occupied (record { value = t; write = u })) (Some o) None)) is_v is_w
    by_value None None is_v is_w = ap₂ (λ (t : Option (List ℕ)) (u : Option Write). value_in (cond (is_occupied (record { value = t; write = u })) (Some o) None)) is_v is_w ∙ sym is_v

occupied_by_write : (v : Option (List ℕ)) (w : Write) → if_occupied (record { value = v; write = Some w }) ≡ Some (record { value = v; write = Some w })
occupied_by_write None w = refl
occupied_by_write (Some v) w = refl

pub write_seen : (cell : Cell) (write : Box Write Global) → seen (Some (with_write (Some write) cell)) ≡ with_change write.value (seen (Some cell))
write_seen cell write =
    occupied_by_write (occupied_by cell).value write.value ∙ ap (λ (v : Option (List ℕ)). Some (record { value = v; write = Some write.value })) (sym (value_seen (occupied_by cell)))

pub write_seen_at : (o : Option Cell) (write : Box Write Global) → IsSome o → seen (option_map (with_write (Some write)) o) ≡ with_change write.value (seen o)
write_seen_at None write some = absurd (true≢false (sym some))
write_seen_at (Some cell) write some = write_seen cell write

pub some_mapped : {A B : Type 0} (f : A → B) (o : Option A) → IsSome o → IsSome (option_map f o)
some_mapped f None some = absurd (true≢false (sym some))
some_mapped f (Some x) some = refl

abbrev if_both : Option (List ℕ) → Option Write → Option Occupied
if_both v w = if_occupied (record { value = v; write = w })

commit_nothing : (v : Option (List ℕ)) → after_commit (if_both v None) ≡ if_both v None
commit_nothing None = refl
commit_nothing (Some v) = refl

commit_one : (v : Option (List ℕ)) (w : Write) → after_commit (if_both v (Some w)) ≡ if_both w.value None
commit_one None w = refl
commit_one (Some v) w = refl

abort_both : (v : Option (List ℕ)) (w : Option Write) → after_abort (if_both v w) ≡ if_both v None
abort_both None None = refl
abort_both None (Some w) = refl
abort_both (Some v) w = refl

abbrev value_of : Option (Box Write Global) → Option Write
value_of w = option_map (λ (b : Box Write Global). b.value) w

abbrev with_it : Cell → Option (Box Write Global) → Option Occupied
with_it cell w = if_both (occupied_by cell).value (value_of w)

pub commit_seen : (at : ℕ) (last : Option ℕ) (o : Option Cell) → seen (option_map (committed at last) o) ≡ after_commit (seen o)
commit_seen at last None = refl
commit_seen at last (Some cell) = by_write cell.write refl
  where
    by_value : (b : Box Write Global) (v : Option (List ℕ)) → b.value.value ≡ v → seen (Some (with_committed b.value.at v at last (with_write None cell))) ≡ if_both v None
    by_value b None is = refl
    by_value b (Some v) is = refl

    by_write : (w : Option (Box Write Global)) → cell.write ≡ w → seen (Some (committed at last cell)) ≡ after_commit (seen (Some cell))
    by_write None is =
        ap (λ (w : Option (Box Write Global)). seen (Some (committed_by (value_of w) at last cell))) is
        ∙ ap (with_it cell) is
        ∙ sym (commit_nothing (occupied_by cell).value)
        ∙ sym (ap (λ (w : Option (Box Write Global)). after_commit (with_it cell w)) is)
    by_write (Some b) is =
        ap (λ (w : Option (Box Write Global)). seen (Some (committed_by (value_of w) at last cell))) is
        ∙ by_value b b.value.value refl
        ∙ sym (commit_one (occupied_by cell).value b.value)
        ∙ sym (ap (λ (w : Option (Box Write Global)). after_commit (with_it cell w)) is)

pub abort_seen : (o : Option Cell) → seen (given_up o) ≡ after_abort (seen o)
abort_seen None = refl
abort_seen (Some cell) = by_version cell.version refl ∙ sym (abort_both (occupied_by cell).value (value_of cell.write))
  where
    by_version : (v : Version) → cell.version ≡ v → seen (given_up (Some cell)) ≡ if_both (occupied_by cell).value None
    by_version (There lsn) is = ap (λ (t : Bool). seen (cond t (Some (with_write None cell)) None)) (ap is_committed is)
    by_version Deleted is = ap (λ (t : Bool). seen (cond t (Some (with_write None cell)) None)) (ap is_committed is)
    by_version Unset is = ap (λ (t : Bool). seen (cond t (Some (with_write None cell)) None)) (ap is_committed is) ∙ sym (ap (λ (k : Version). if_both (committed_value k cell.«data») None) is)

fresh_seen : (o : Option Cell) → seen (Some (cell_or_fresh o)) ≡ seen o
fresh_seen None = refl
fresh_seen (Some cell) = refl

pub made_seen : (old new : List (Name × Cell)) (name : Name) → HasCell old new name (cell_or_fresh (value_at name old)) → (x : Name) → seen (value_at x new) ≡ seen (value_at x old)
made_seen old new name has x = ap seen (has x) ∙ by_name (same_or_other name x)
  where
    by_name : (name ≡ x) ⊎ (is_eq (name_cmp name x) ≡ false) → seen (cond (is_eq (name_cmp name x)) (Some (cell_or_fresh (value_at name old))) (value_at x old)) ≡ seen (value_at x old)
    by_name (inl same) =
        let equal : is_eq (name_cmp name x) ≡ true = subst (λ (y : Name). is_eq (name_cmp name y) ≡ true) same (ap is_eq (name_same name)) in
        ap (λ (t : Bool). seen (cond t (Some (cell_or_fresh (value_at name old))) (value_at x old))) equal
        ∙ fresh_seen (value_at name old)
        ∙ ap (λ (y : Name). seen (value_at y old)) same
    by_name (inr apart) = ap seen (other_stays name x (Some (cell_or_fresh (value_at name old))) (value_at x old) apart)

-- no cell goes where one is put
pub kept_put : (old new : List (Name × Cell)) (name : Name) (raw : Option Cell) → ((x : Name) → value_at x new ≡ cond (is_eq (name_cmp name x)) raw (value_at x old)) → IsSome raw →
    (x : Name) → IsSome (value_at x old) → IsSome (value_at x new)
kept_put old new name raw has some x there = subst IsSome (sym (has x)) (by_test (is_eq (name_cmp name x)))
  where
    by_test : (t : Bool) → IsSome (cond t raw (value_at x old))
    by_test true = some
    by_test false = there

-- ---- what is seen of a cell that the log has

write_kept : (o : Occupied) → is_some o.write ≡ true → write_in (if_occupied o) ≡ o.write
write_kept o some = by_value o.value o.write refl refl
  where
    by_value : (v : Option (List ℕ)) (w : Option Write) → o.value ≡ v → o.write ≡ w → write_in (if_occupied o) ≡ o.write
    by_value (Some v) w is_v is_w = ap (λ (t : Option (List ℕ)). write_in (cond (is_occupied (record { value = t; write = o.write })) (Some o) None)) is_v
    by_value None (Some w) is_v is_w = ap₂ (λ (t : Option (List ℕ)) (u : Option Write). write_in (cond (is_occupied (record { value = t; write = u })) (Some o) None)) is_v is_w
    by_value None None is_v is_w = absurd (true≢false (sym some ∙ ap (λ (u : Option Write). is_some u) is_w))

write_seen_of : (o : Occupied) → write_in (if_occupied o) ≡ o.write
write_seen_of o = by_write o.write refl
  where
    by_value : (v : Option (List ℕ)) → o.value ≡ v → o.write ≡ None → write_in (if_occupied o) ≡ o.write
    by_value (Some v) is_v none = ap (λ (t : Option (List ℕ)). write_in (cond (is_occupied (record { value = t; write = o.write })) (Some o) None)) is_v
    by_value None is_v none = ap₂ (λ (t : Option (List ℕ)) (u : Option Write). write_in (cond (is_occupied (record { value = t; write = u })) (Some o) None)) is_v none ∙ sym none

    by_write : (w : Option Write) → o.write ≡ w → write_in (if_occupied o) ≡ o.write
    by_write (Some w) is = write_kept o (ap (λ (u : Option Write). is_some u) is)
    by_write None is = by_value o.value refl is

pub logged_seen : (value : Option (List ℕ)) (at commit : ℕ) (last : Option ℕ) (o : Option Cell) → seen (option_map (with_logged value at commit last) (Some (cell_or_fresh o))) ≡ with_value value (seen o)
logged_seen (Some value) at commit last None = refl
logged_seen None at commit last None = refl
logged_seen (Some value) at commit last (Some cell) = ap (λ (w : Option Write). if_both (Some value) w) (sym (write_seen_of (occupied_by cell)))
logged_seen None at commit last (Some cell) = ap (λ (w : Option Write). if_both None w) (sym (write_seen_of (occupied_by cell)))
