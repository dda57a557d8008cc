-- The committed records behind a commit are those that the transaction's own changes leave.
use mathlib.Core.Path.{fun_ext}
use Rattle.std.proofs.Common.{◌≡◌, ◌≢◌, ◌⊎◌, inl, inr, ℕ, ◌==◌, Bool, true, false, cond, ◌&&◌, List, [], ◌∷◌, Option, None, Some, is_some, refl, ap, ap₂, sym, ◌∙◌, is_eq}
use Rattle.std.specs.List.{AllByRecursion}
use Rattle.std.specs.Option.{option_or}
use Rattle.std.proofs.lemmas.Bool.{eqb-true, eqb-false, eq-eqb, ne_eqb}
use Rattle.std.proofs.lemmas.Bool.Decides.{eqb_tells}
use Rattle.std.proofs.lemmas.Option.{none-some, same_Some}
use Rattle.je_order.specs.Order.{name_cmp}
use Rattle.je_order.specs.declared.name.Name.{Name}
use Rattle.record_map.specs.declared.write.Write.{Write}
use Rattle.record_map.specs.Cells.{IsRising, value_at}
use Rattle.record_map.proofs.NameLaws.{name_same}
use Rattle.record_tree.specs.declared.tree_name.TreeName.{TreeName}
use Rattle.record_tree.specs.Occupied.{Occupied, AllCells, HasChangedAll, after_commit, if_occupied, is_among, value_in, write_in}
use Rattle.store_model.specs.declared.record_change.RecordChange.{RecordChange}
use Rattle.store_model.specs.declared.record_change.RecordChange.TheVariants.{Set, Unset}
use Rattle.store_model.specs.Needs.{changed_name}
use Rattle.log_replay.specs.Rows.{Rows, IsRising as RowsRise, data_at, rows_with}
use Rattle.log_replay.proofs.LoadedRows.{same_rows}
use Rattle.log_replay.proofs.MapRows.{lookup_is_data, rising_from_keys}
use Rattle.log_replay.proofs.NameLaws.{data-with}
use Rattle.txn_core.specs.Known.{committed}
use Rattle.txn_core.proofs.ReadingLaws.{committed_at, committed_rises}
use Rattle.txn_log.specs.Own.{row_of, value_to}
use Rattle.txn_log.specs.Committing.{rows_own}
use Rattle.txn_views.specs.Seen.{last_own, value_of, HasWrites, IsWriteOf}
use Rattle.txn_views.specs.Laws.{own_name, own_names}
use Rattle.standing_laws.proofs.Among.{IsAmong, any_from, among_map, all_of}
use Rattle.txn_views.proofs.OwnLaws.{is_of, among, last_cons, only_one}

abbrev Own : Type 0
Own = List (ℕ × RecordChange)

-- the data that a last change leaves
abbrev pub value_by : Option RecordChange → Option (List ℕ) → Option (List ℕ)
value_by None value = value
value_by (Some c) value = value_of c

-- ---- the records that own changes leave

same_value : (c : RecordChange) → value_to c ≡ value_of c
same_value (Set at value) = refl
same_value (Unset at) = refl

eqb_turned : (a b : ℕ) (t : Bool) → (a == b) ≡ t → (b == a) ≡ t
eqb_turned a b true h = eq-eqb b a (sym (eqb-true a b h))
eqb_turned a b false h = ne_eqb b a (λ e. eqb-false a b h (sym e))

one_changed : (c : ℕ × RecordChange) (rows : Rows) (d : ℕ) (x : Name) → data_at x (rows_own (c ∷ []) rows d) ≡ cond (is_of d x c) (value_of c.1) (data_at x (rows d))
one_changed c rows d x = by (d == c.0) refl
  where
    inner : (b : Bool) → (d == c.0) ≡ b → data_at x (cond b (rows_with (changed_name c.1) (value_to c.1) (rows d)) (rows d)) ≡ cond (b && is_eq (name_cmp x (changed_name c.1))) (value_of c.1) (data_at x (rows d))
    inner true e = data-with (changed_name c.1) (value_to c.1) x (rows d) ∙ ap (λ v. cond (is_eq (name_cmp x (changed_name c.1))) v (data_at x (rows d))) (same_value c.1)
    inner false e = refl

    by : (b : Bool) → (d == c.0) ≡ b → data_at x (rows_own (c ∷ []) rows d) ≡ cond (is_of d x c) (value_of c.1) (data_at x (rows d))
    by b e = ap (λ (t : Bool). data_at x (cond t (rows_with (changed_name c.1) (value_to c.1) (rows d)) (rows d))) e ∙ (inner b e
        ∙ ap (λ (t : Bool). cond (t && is_eq (name_cmp x (changed_name c.1))) (value_of c.1) (data_at x (rows d))) (sym (eqb_turned d c.0 b e)))

either : (o : Option RecordChange) (t : Bool) (c : RecordChange) (v : Option (List ℕ)) → value_by o (cond t (value_of c) v) ≡ value_by (option_or o (cond t (Some c) None)) v
either None true c v = refl
either None false c v = refl
either (Some y) t c v = refl

pub data_last : (own : Own) (rows : Rows) (d : ℕ) (x : Name) → data_at x (rows_own own rows d) ≡ value_by (last_own d x own) (data_at x (rows d))
data_last [] rows d x = refl
data_last (c ∷ cs) rows d x =
    data_last cs (rows_own (c ∷ []) rows) d x
    ∙ (ap (value_by (last_own d x cs)) (one_changed c rows d x)
    ∙ (either (last_own d x cs) (is_of d x c) c.1 (data_at x (rows d)) ∙ ap (λ (o : Option RecordChange). value_by o (data_at x (rows d))) (sym (last_cons d x c cs))))

-- ---- the cells behind a commit

value_kept : (v : Option (List ℕ)) → value_in (if_occupied (record { value = v; write = None })) ≡ v
value_kept None = refl
value_kept (Some v) = refl

cell_after : (t d : ℕ) (x : Name) (own : ℕ → Own) (o : Option Occupied) (last : Option RecordChange) → last_own d x (own t) ≡ last → IsWriteOf d x own (write_in o) → value_in (cond (is_some last) (after_commit o) o) ≡ value_by last (value_in o)
cell_after t d x own o None is h = refl
cell_after t d x own None (Some c) is h = absurd (none-some c (sym (h t) ∙ is))
cell_after t d x own (Some r) (Some c) is h = by r.write h
  where
    by : (w : Option Write) → IsWriteOf d x own w → value_in (after_commit (Some (record { value = r.value; write = w }))) ≡ value_of c
    by None k = absurd (none-some c (sym (k t) ∙ is))
    by (Some w) k = value_kept w.value ∙ (k.value ∙ by_txn (eqb_tells t w.txn.0))
      where
        by_txn : ((t == w.txn.0) ≡ true) × (t ≡ w.txn.0) ⊎ ((t == w.txn.0) ≡ false) × (t ≢ w.txn.0) → value_of k.change ≡ value_of c
        by_txn (inl same) = ap value_of (same_Some k.change c (sym k.last ∙ (ap (λ (n : ℕ). last_own d x (own n)) (sym same.1) ∙ is)))
        by_txn (inr other) = absurd (none-some c (sym (k.others t other.1) ∙ is))

pub commit_rows : (t : ℕ) (own : ℕ → Own) (old new : AllCells) (names : List TreeName) → names ≡ own_names (own t) → HasWrites old own → ((d : ℕ) → IsRising (old d)) → ((d : ℕ) → IsRising (new d)) → HasChangedAll old new names after_commit
    → ((d : ℕ) → RowsRise (rows_own (own t) (committed old) d)) → committed new ≡ rows_own (own t) (committed old)
commit_rows t own old new names is has was rising changed own_rising = fun_ext (λ d. same_rows (committed new d) (rows_own (own t) (committed old) d)
    (rising_from_keys (committed new d) (committed_rises (new d) (rising d))) (own_rising d)
    (λ x. lookup_is_data x (committed new d) ∙ (committed_at x (new d) (rising d) ∙ (ap value_in (changed d x ∙ ap (λ (b : Bool). cond b (after_commit (value_at x (old d))) (value_at x (old d))) (ap (is_among d x) is ∙ among d x (own t)))
    ∙ (cell_after t d x own (value_at x (old d)) (last_own d x (own t)) refl (has d x)
    ∙ (ap (value_by (last_own d x (own t))) (sym (committed_at x (old d) (was d))) ∙ (sym (data_last (own t) (committed old) d x) ∙ sym (lookup_is_data x (rows_own (own t) (committed old) d)))))))))

-- ---- what others changed is not touched

all_in : {X : Type 0} (P : X → Type 0) (xs : List X) → ((x : X) → IsAmong x xs → P x) → AllByRecursion P xs
all_in P xs f = all_of P xs f

equal_itself : (x : Name) → is_eq (name_cmp x x) ≡ true
equal_itself x = ap is_eq (name_same x)

own_last : (own : Own) (c : ℕ × RecordChange) → IsAmong c own → is_some (last_own c.0 (changed_name c.1) own) ≡ true
own_last own c there = sym (among c.0 (changed_name c.1) own)
    ∙ any_from (λ (e : TreeName). (e.db == c.0) && is_eq (name_cmp e.name (changed_name c.1))) (own_names own) (own_name c) (among_map own_name own c there)
    (ap₂ (λ (a b : Bool). a && b) (eq-eqb c.0 c.0 refl) (equal_itself (changed_name c.1)))

some_last : (o : Option RecordChange) → is_some o ≡ true → (c : RecordChange) × (o ≡ Some c)
some_last None h = absurd cc
some_last (Some c) h = (c, refl)

-- the records of a transaction's names are as they were behind another one's commit
pub others_stay : (t u : ℕ) (own : ℕ → Own) (cells : AllCells) (rows : Rows) → (u ≢ t) → HasWrites cells own → AllByRecursion (λ c. data_at (row_of c).name (rows_own (own t) rows c.0) ≡ data_at (row_of c).name (rows c.0)) (own u)
others_stay t u own cells rows apart has = all_in (λ c. data_at (row_of c).name (rows_own (own t) rows c.0) ≡ data_at (row_of c).name (rows c.0)) (own u) (λ c there.
    let s = some_last (last_own c.0 (changed_name c.1) (own u)) (own_last (own u) c there) in
    data_last (own t) rows c.0 (changed_name c.1)
    ∙ ap (λ (o : Option RecordChange). value_by o (data_at (changed_name c.1) (rows c.0))) (only_one c.0 (changed_name c.1) own (write_in (value_at (changed_name c.1) (cells c.0))) u t s.0 (has c.0 (changed_name c.1)) s.1 (λ e. apart (sym e))))
