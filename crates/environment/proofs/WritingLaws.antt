-- What the changes of a call are where it may write them.
use mathlib.Core.Path.{fun_ext}
use Rattle.std.proofs.Common.{arith, ◌≡◌, ◌≢◌, ◌⊎◌, inl, inr, ℕ, ◌+◌, ◌==◌, Bool, true, false, cond, List, [], ◌∷◌, ◌++◌, map, Option, None, Some, is_some, IfSome, refl, ap, ap₂, sym, ◌∙◌, count_by}
use Rattle.std.specs.List.{AllByRecursion}
use Rattle.std.specs.Option.{option_map_or}
use Rattle.std.proofs.lemmas.Bool.Decides.{eqb_tells}
use Rattle.std.proofs.lemmas.Option.{none-some}
use Rattle.je_order.specs.declared.name.Name.{Name}
use Rattle.je_order.specs.declared.txn_id.TxnId.{TxnId}
use Rattle.record_map.specs.declared.write.Write.{Write}
use Rattle.record_map.specs.Cells.{IsRising, value_at}
use Rattle.record_tree.specs.declared.tree_change.TreeChange.{TreeChange}
use Rattle.record_tree.specs.declared.tree_name.TreeName.{TreeName}
use Rattle.record_tree.specs.Occupied.{AllCells, AreWritten, IsFreeFor, Occupied, value_in, write_in}
use Rattle.store_model.specs.declared.record_change.RecordChange.{RecordChange}
use Rattle.store_model.specs.declared.record_change.RecordChange.TheVariants.{Set, Unset}
use Rattle.store_model.specs.declared.isolation.Isolation.TheVariants.{RepeatableRead}
use Rattle.store_model.specs.Needs.{changed_name}
use Rattle.log_replay.proofs.LoadedRows.{same_rows}
use Rattle.log_replay.proofs.MapRows.{lookup_is_data, rising_from_keys}
use Rattle.txn_core.specs.Known.{committed}
use Rattle.txn_core.proofs.ReadingLaws.{committed_at, committed_rises}
use Rattle.txn_log.specs.Own.{AreFreeNames, tree_of}
use Rattle.txn_log.specs.Committing.{records_had, rows_own}
use Rattle.txn_log.proofs.OwnLaws.{none_is_last}
use Rattle.txn_views.specs.Laws.{own_name, own_names, planned_own}
use Rattle.txn_views.specs.Seen.{HasWrites, IsWriteOf, last_own, seen_value}
use Rattle.txn_views.proofs.OwnLaws.{none-is_last}
use Rattle.standing_laws.specs.Laws.{IsOnlyOf}
use Rattle.environment.specs.Changing.{AreApartIn, has_data}
use Rattle.environment.specs.Writing.{has_record}
use Rattle.environment.proofs.ChangeLaws.{count_cons, had_counted}
use Rattle.environment.proofs.CommitRows.{data_last, value_by}

-- ---- what is planned of them may be written

-- none makes a database
pub none_made : (Q : ℕ → Type 0) (own : List (ℕ × RecordChange)) → AllByRecursion (λ c. IfSome c.makes Q) (map tree_of own)
none_made Q [] = tt
none_made Q (c ∷ own) = (tt, none_made Q own)

-- as changes of the trees they are those of plans
planned_one : (c : ℕ × RecordChange) → tree_of c ≡ planned_own c
planned_one c = by c.1
  where
    by : (r : RecordChange) → tree_of (c.0, r) ≡ planned_own (c.0, r)
    by (Set at value) = refl
    by (Unset at) = refl

pub planned_same : (own : List (ℕ × RecordChange)) → map tree_of own ≡ map planned_own own
planned_same [] = refl
planned_same (c ∷ own) = ap₂ (λ (x : TreeChange) (l : List TreeChange). x ∷ l) (planned_one c) (planned_same own)

-- the names of own changes behind others
pub names_append : (own more : List (ℕ × RecordChange)) → own_names (own ++ more) ≡ own_names own ++ own_names more
names_append [] more = refl
names_append (c ∷ own) more = ap (λ (l : List TreeName). own_name c ∷ l) (names_append own more)

none_last : (d : ℕ) (c : RecordChange) (t : ℕ) (own : ℕ → List (ℕ × RecordChange)) → IsOnlyOf d (changed_name c) t own → (u : ℕ) → (u ≡ t → ⊥) → last_own d (changed_name c) (own u) ≡ None
none_last d c t own only u other = none-is_last d (changed_name c) (own u) (only u other)

free_write : (txn : TxnId) (d : ℕ) (x : Name) (own : ℕ → List (ℕ × RecordChange)) (o : Option Write) → IsWriteOf d x own o → ((t : ℕ) → (t ≡ txn.0 → ⊥) → last_own d x (own t) ≡ None) → IsFreeFor txn o
free_write txn d x own None is free = tt
free_write txn d x own (Some w) is free = by (eqb_tells w.txn.0 txn.0)
  where
    by : ((w.txn.0 == txn.0) ≡ true) × (w.txn.0 ≡ txn.0) ⊎ ((w.txn.0 == txn.0) ≡ false) × (w.txn.0 ≢ txn.0) → w.txn ≡ txn
    by (inl same) = ap (λ (n : ℕ). record { 0 = n }) same.1
    by (inr other) = absurd (none-some is.change (sym (free w.txn.0 other.1) ∙ is.last))

pub planned_free : (txn : TxnId) (changes : List (ℕ × RecordChange)) (own : ℕ → List (ℕ × RecordChange)) (cells : AllCells) → HasWrites cells own →
    AllByRecursion (λ c. IsOnlyOf c.0 (changed_name c.1) txn.0 own) changes → AllByRecursion (λ c. IsFreeFor txn (write_in (value_at c.name (cells c.db)))) (map tree_of changes)
planned_free txn [] own cells has free = tt
planned_free txn (c ∷ changes) own cells has free = (
  free_write txn c.0 (changed_name c.1) own (write_in (value_at (changed_name c.1) (cells c.0))) (has c.0 (changed_name c.1)) (none_last c.0 c.1 txn.0 own free.0),
  planned_free txn changes own cells has free.1,
)

pub names_free : (is_active : ℕ → Bool) (t : ℕ) (changes : List (ℕ × RecordChange)) (own : ℕ → List (ℕ × RecordChange)) →
    AllByRecursion (λ c. IsOnlyOf c.0 (changed_name c.1) t own) changes → AreFreeNames is_active own t (map tree_of changes)
names_free is_active t [] own free = tt
names_free is_active t (c ∷ changes) own free = (
  λ u active other. none_is_last c.0 (changed_name c.1) (own u) (none_last c.0 c.1 t own free.0 u other),
  names_free is_active t changes own free.1,
)

-- ---- what is committed stays

pub rows_stay : (txn : TxnId) (changes : List TreeChange) (old new : AllCells) → ((d : ℕ) → IsRising (old d)) → ((d : ℕ) → IsRising (new d)) → AreWritten txn changes old new → committed new ≡ committed old
rows_stay txn changes old new was rising w = fun_ext (λ d. same_rows (committed new d) (committed old d)
    (rising_from_keys (committed new d) (committed_rises (new d) (rising d))) (rising_from_keys (committed old d) (committed_rises (old d) (was d)))
    (λ x. lookup_is_data x (committed new d) ∙ committed_at x (new d) (rising d) ∙ w.values d x
    ∙ sym (lookup_is_data x (committed old d) ∙ committed_at x (old d) (was d))))

-- ---- how many names had a record

-- what the transaction sees under a name is what its own changes leave there
seen : (txn : TxnId) (d : ℕ) (x : Name) (own : ℕ → List (ℕ × RecordChange)) (o : Option Occupied) → IsWriteOf d x own (write_in o) →
    option_map_or (λ v. is_some (seen_value RepeatableRead txn v)) o false ≡ is_some (value_by (last_own d x (own txn.0)) (value_in o))
seen txn d x own None is = ap (λ (l : Option RecordChange). is_some (value_by l None)) (sym (is txn.0))
seen txn d x own (Some o) is = by o.write is
  where
    by : (w : Option Write) → IsWriteOf d x own w → is_some (seen_value RepeatableRead txn (record { value = o.value; write = w })) ≡ is_some (value_by (last_own d x (own txn.0)) o.value)
    by None k = ap (λ (l : Option RecordChange). is_some (value_by l o.value)) (sym (k txn.0))
    by (Some w) k = by_txn (eqb_tells w.txn.0 txn.0)
      where
        by_txn : ((w.txn.0 == txn.0) ≡ true) × (w.txn.0 ≡ txn.0) ⊎ ((w.txn.0 == txn.0) ≡ false) × (w.txn.0 ≢ txn.0) →
            is_some (cond (w.txn.0 == txn.0) w.value o.value) ≡ is_some (value_by (last_own d x (own txn.0)) o.value)
        by_txn (inl same) =
            ap (λ (b : Bool). is_some (cond b w.value o.value)) same.0 ∙ ap is_some k.value
            ∙ ap (λ (l : Option RecordChange). is_some (value_by l o.value)) (sym k.last ∙ ap (λ (n : ℕ). last_own d x (own n)) same.1)
        by_txn (inr other) =
            ap (λ (b : Bool). is_some (cond b w.value o.value)) other.0
            ∙ ap (λ (l : Option RecordChange). is_some (value_by l o.value)) (sym (k.others txn.0 (λ e. other.1 (sym e))))

has_one : (txn : TxnId) (c : ℕ × RecordChange) (own : ℕ → List (ℕ × RecordChange)) (cells : AllCells) → ((d : ℕ) → IsRising (cells d)) → HasWrites cells own →
    has_record txn cells (tree_of c) ≡ has_data (rows_own (own txn.0) (committed cells)) (tree_of c)
has_one txn c own cells up has =
    seen txn c.0 (changed_name c.1) own (value_at (changed_name c.1) (cells c.0)) (has c.0 (changed_name c.1))
    ∙ ap (λ (v : Option (List ℕ)). is_some (value_by (last_own c.0 (changed_name c.1) (own txn.0)) v)) (sym (committed_at (changed_name c.1) (cells c.0) (up c.0)))
    ∙ ap is_some (sym (data_last (own txn.0) (committed cells) c.0 (changed_name c.1)))

-- two tests that say the same of each count the same
counted_alike : {X : Type 0} (p q : X → Bool) (xs : List X) → AllByRecursion (λ x. p x ≡ q x) xs → count_by p xs ≡ count_by q xs
counted_alike p q [] same = refl
counted_alike p q (x ∷ xs) same =
    let first = count_cons p x xs in
    let second = count_cons q x xs in
    let test = ap {B = ℕ} (λ (b : Bool). cond b 1 0) same.0 in
    let rest = counted_alike p q xs same.1 in
    omega (arith, first, second, test, rest)

pub had_own : (txn : TxnId) (changes : List (ℕ × RecordChange)) (own : ℕ → List (ℕ × RecordChange)) (cells : AllCells) → ((d : ℕ) → IsRising (cells d)) → HasWrites cells own → AreApartIn changes →
    count_by (has_record txn cells) (map tree_of changes) ≡ records_had changes (rows_own (own txn.0) (committed cells))
had_own txn changes own cells up has apart =
    counted_alike (has_record txn cells) (has_data (rows_own (own txn.0) (committed cells))) (map tree_of changes) (every changes)
    ∙ had_counted changes (rows_own (own txn.0) (committed cells)) apart
  where
    every : (cs : List (ℕ × RecordChange)) → AllByRecursion (λ c. has_record txn cells c ≡ has_data (rows_own (own txn.0) (committed cells)) c) (map tree_of cs)
    every [] = tt
    every (c ∷ cs) = (has_one txn c own cells up has, every cs)
