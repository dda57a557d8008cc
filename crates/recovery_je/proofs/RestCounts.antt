-- What is left of the records in trees.
use Rattle.std.proofs.Common.{◌≡◌, ℕ, Bool, true, false, cond, not, ◌&&◌, ◌==◌, List, [], ◌∷◌, ◌++◌, Option, None, Some, Result, Ok, Err, length, filter, map, refl, sym, ap, ap₂, ◌∙◌, append_assoc, subst}
use Rattle.std.specs.Prelude.{IfOk}
use Rattle.std.specs.List.{AllByRecursion}
use Rattle.std.proofs.lemmas.Bool.{and_parts, cond-false, eqb-true, not-true, true≢false}
use Rattle.std.proofs.lemmas.List.{append-nil}
use Rattle.std.proofs.lemmas.List.Kept.{IsStrictlySortedBy-filter}
use Rattle.std.specs.List.Sorted.{IsStrictlySortedBy}
use Rattle.std.specs.Ordering.{on}
use Rattle.je_order.specs.Order.{name_cmp}
use Rattle.je_order.specs.Words.{is_word}
use Rattle.je_order.specs.declared.name.Name.{Name}
use Rattle.db_catalog.specs.Catalog.{db_record_in}
use Rattle.record_map.specs.Cells.{IsRising as AreRising}
use Rattle.record_tree.specs.Stored.{Stored, values_of}
use Rattle.store_model.specs.declared.extract.Extract.{Extract}
use Rattle.store_model.specs.declared.kind.Kind.{Kind}
use Rattle.store_model.specs.declared.kind.Kind.TheVariants.{Plain, Dup}
use Rattle.store_model.specs.Indexes.{index_pairs}
use Rattle.store_model.specs.Store.{HasRisingNames}
use Rattle.log_replay.specs.Rows.{Row, Rows, are_right, catalog_index, catalog_kind, catalog_number, has_primary, is_catalog_row, is_plain_row, is_right_row, pair_of, row_numbered}
use Rattle.log_replay.specs.Wrong.{is_right_behind}
use Rattle.log_replay.specs.Indexed.{are_same_pairs}
use Rattle.log_replay.proofs.IndexedLaws.{primary_kind}
use Rattle.log_replay.proofs.ListLaws.{all_true, all_weaker, filter-all, found}
use Rattle.log_replay.proofs.LoggedLaws.{plain_there}
use Rattle.log_replay.proofs.PlanViews.{rising_pairs}
use Rattle.check_laws.specs.declared.database_count.DatabaseCount.{DatabaseCount}
use Rattle.check_laws.specs.declared.finding.Finding.{Finding}
use Rattle.check_laws.specs.declared.finding.Finding.TheVariants.{Index as WrongIndex}
use Rattle.check_laws.specs.Parts.{kept_in_catalog}
use Rattle.check_laws.specs.Rest.{catalog_left, is_paired, is_paired_by, left_by, primary_rows, rows_left}
use Rattle.check_laws.specs.Check.{count_left, counts_left, index_findings}
use Rattle.recovery_je.specs.RestChecks.{count_of_rest, index_noted, indexes_in, is_paired_in, rest_in, paired_in, primary_in}
use Rattle.recovery_je.proofs.MeaningLaws.{values_rise}
use Rattle.recovery_je.proofs.RecordNotes.{is_left}

-- ---- right records

pub ok_both : {A E : Type 0} {P Q R : A → Type 0} (r : Result A E) → ((x : A) → P x → Q x → R x) → IfOk r P → IfOk r Q → IfOk r R
ok_both (Ok x) both h k = both x h k
ok_both (Err e) both h k = tt

-- where none is wrong all are left
pub all_right : (kind : Kind) (rows records : List Row) → not (are_right kind rows) ≡ false → records ≡ rows → records ≡ filter (is_right_row kind) rows
all_right kind rows records right is = is ∙ sym (filter-all (is_right_row kind) rows (all_true (is_right_row kind) rows (turned (are_right kind rows) right)))
  where
    turned : (b : Bool) → not b ≡ false → b ≡ true
    turned true h = refl
    turned false h = absurd (true≢false h)

filtered_right : (kind : Kind) (rows : List Row) → are_right kind (filter (is_right_row kind) rows) ≡ true
filtered_right kind [] = refl
filtered_right kind (r ∷ rows) = by (filtered_right kind rows) (is_right_row kind r) refl
  where
    by : are_right kind (filter (is_right_row kind) rows) ≡ true → (b : Bool) → is_right_row kind r ≡ b → are_right kind (cond b (r ∷ filter (is_right_row kind) rows) (filter (is_right_row kind) rows)) ≡ true
    by rest true is = ap (λ (b : Bool). b && are_right kind (filter (is_right_row kind) rows)) is ∙ rest
    by rest false is = rest

-- no records have names in order
pub none_rise : HasRisingNames Plain []
unfolding IsStrictlySortedBy
none_rise = tt

-- those of a primary have keys of their own, in order
pub right_rise : (records : List (Name × Stored)) (own : List Row) → own ≡ filter (is_right_row Plain) (values_of records) → AreRising records → HasRisingNames Plain (map (pair_of Plain) own)
right_rise records own is up =
    subst (λ (l : List Row). HasRisingNames Plain (map (pair_of Plain) l)) (sym is)
    (rising_pairs Plain (filter (is_right_row Plain) (values_of records)) (filtered_right Plain (values_of records)) (IsStrictlySortedBy-filter (on (λ (r : Row). r.0) name_cmp) (is_right_row Plain) (values_of records) (values_rise records up)))

-- ---- the catalog's records that are left

kept_right : (all : List Row) (before : List ℕ) (rows : List Row) → AllByRecursion (λ (r : Row). is_catalog_row r ≡ true) (kept_in_catalog all before rows)
kept_right all before [] = tt
kept_right all before (r ∷ rows) = by (kept_right all (before ++ catalog_number r.1 ∷ []) rows) (kept_right all before rows) (is_left all before r) refl
  where
    own : is_left all before r ≡ true → is_catalog_row r ≡ true
    own h = (and_parts _ _ (and_parts _ _ (and_parts (is_right_behind before r) (has_primary all (catalog_index r.1)) h).0).0).0

    by : AllByRecursion (λ (s : Row). is_catalog_row s ≡ true) (kept_in_catalog all (before ++ catalog_number r.1 ∷ []) rows) → AllByRecursion (λ (s : Row). is_catalog_row s ≡ true) (kept_in_catalog all before rows) →
        (b : Bool) → is_left all before r ≡ b → AllByRecursion (λ (s : Row). is_catalog_row s ≡ true) (cond b (r ∷ kept_in_catalog all (before ++ catalog_number r.1 ∷ []) rows) (kept_in_catalog all before rows))
    by with_it without true is = (own is, with_it)
    by with_it without false is = without

numbered : (r : Row) → is_catalog_row r ≡ true → (catalog_number r.1 == 0) ≡ false
numbered r h = not-true (catalog_number r.1 == 0) (and_parts (is_word r.0.key && (length r.0.dup == 0)) (not (catalog_number r.1 == 0)) h).1

-- what is left of a database that one of them names
left_here : (rows : Rows) (n : ℕ) → (n == 0) ≡ false → rows_left rows n ≡ rest_in (catalog_left rows) rows n
left_here rows n is = cond-false (n == 0) (catalog_left rows) (rest_in (catalog_left rows) rows n) is

-- and of a primary
primary_here : (rows : Rows) (n : ℕ) → primary_in (catalog_left rows) rows n ≡ primary_rows (rows_left rows) n
primary_here rows n = by (is_plain_row (row_numbered n (catalog_left rows))) refl
  where
    by : (b : Bool) → is_plain_row (row_numbered n (catalog_left rows)) ≡ b → cond b (filter (is_right_row Plain) (rows n)) [] ≡ cond b (rows_left rows n) []
    by false is = refl
    by true is =
        let p = plain_there (row_numbered n (catalog_left rows)) is in
        let one = found (λ (r : Row). is_catalog_row r ≡ true) (λ (r : Row). catalog_number r.1 == n) (catalog_left rows) p.0 p.1 (kept_right (rows 0) [] (rows 0)) in
        let number : catalog_number p.0.1 ≡ n = eqb-true (catalog_number p.0.1) n one.1 in
        let kind : catalog_kind p.0.1 ≡ Plain = (primary_kind (db_record_in p.0.1) (sym (ap is_plain_row p.1) ∙ is)).0 in
        ap (λ (k : Kind). filter (is_right_row k) (rows n)) (sym kind) ∙ ap (λ (o : Option Row). left_by o (rows n)) (sym p.1)
        ∙ sym (left_here rows n (ap (λ (m : ℕ). m == 0) (sym number) ∙ numbered p.0 one.0))

paired_here : (rows : Rows) (r : Row) → is_catalog_row r ≡ true → is_paired_in (catalog_left rows) rows r ≡ is_paired (rows_left rows) r
paired_here rows r own = by (catalog_index r.1)
  where
    here : rest_in (catalog_left rows) rows (catalog_number r.1) ≡ rows_left rows (catalog_number r.1)
    here = sym (left_here rows (catalog_number r.1) (numbered r own))

    by : (o : Option (ℕ × Extract)) → paired_in (catalog_left rows) rows (rest_in (catalog_left rows) rows (catalog_number r.1)) o ≡ is_paired_by (rows_left rows) (catalog_number r.1) o
    by None = refl
    by (Some made) = ap₂ (λ (l : List Row) (m : List Row). are_same_pairs (map (pair_of Dup) l) (index_pairs made.1 (map (pair_of Plain) m))) here (primary_here rows made.0)

count_here : (rows : Rows) (r : Row) → is_catalog_row r ≡ true → count_of_rest (catalog_left rows) rows r ≡ count_left (rows_left rows) r
count_here rows r own =
    let of : List Row → DatabaseCount = λ l. record { name = r.0.key; records = length l } in
    ap of (sym (left_here rows (catalog_number r.1) (numbered r own)))

mapped_alike : {A B : Type 0} (f g : A → B) (xs : List A) → AllByRecursion (λ x. f x ≡ g x) xs → map f xs ≡ map g xs
mapped_alike f g [] all = refl
mapped_alike f g (x ∷ xs) all = ap₂ (λ y ys. y ∷ ys) all.0 (mapped_alike f g xs all.1)

filtered_alike : {A : Type 0} (p q : A → Bool) (xs : List A) → AllByRecursion (λ x. p x ≡ q x) xs → filter p xs ≡ filter q xs
filtered_alike p q [] all = refl
filtered_alike p q (x ∷ xs) all = ap₂ (λ (b : Bool) (l : List _). cond b (x ∷ l) l) all.0 (filtered_alike p q xs all.1)

-- ---- one after another

-- an index that has its pairs or was noted, and those behind it
pub index_next : (catalog : List Row) (rows : Rows) (left rest : List Row) (r : Row) (old new : List Finding) → left ≡ r ∷ rest → new ≡ old ++ index_noted (is_paired_in catalog rows r) r →
    new ++ indexes_in catalog rows rest ≡ old ++ indexes_in catalog rows left
index_next catalog rows left rest r old new is noted =
    ap (λ (l : List Finding). l ++ indexes_in catalog rows rest) noted ∙ by (is_paired_in catalog rows r) ∙ ap (λ (l : List Row). old ++ indexes_in catalog rows l) (sym is)
  where
    by : (b : Bool) → (old ++ index_noted b r) ++ indexes_in catalog rows rest ≡ old ++ map WrongIndex (map (λ (s : Row). s.0.key) (cond (not b) (r ∷ filter (λ s. not (is_paired_in catalog rows s)) rest) (filter (λ s. not (is_paired_in catalog rows s)) rest)))
    by true = ap (λ (l : List Finding). l ++ indexes_in catalog rows rest) (append-nil old)
    by false = append_assoc old (WrongIndex r.0.key ∷ []) (indexes_in catalog rows rest)

-- ---- the whole

pub rest_counted : (rows : Rows) (catalog : List Row) (counts : List DatabaseCount) → catalog ≡ catalog_left rows → counts ≡ map (count_of_rest catalog rows) catalog → counts ≡ counts_left (rows_left rows)
rest_counted rows catalog counts is counted =
    counted ∙ ap (λ (l : List Row). map (count_of_rest l rows) l) is
    ∙ mapped_alike (count_of_rest (catalog_left rows) rows) (count_left (rows_left rows)) (catalog_left rows)
    (all_weaker (λ (r : Row). is_catalog_row r ≡ true) (λ r. count_of_rest (catalog_left rows) rows r ≡ count_left (rows_left rows) r) (λ r own. count_here rows r own) (catalog_left rows) (kept_right (rows 0) [] (rows 0)))

pub rest_noted : (rows : Rows) (catalog : List Row) (old new : List Finding) → catalog ≡ catalog_left rows → new ≡ old ++ indexes_in catalog rows catalog → new ≡ old ++ index_findings (rows_left rows)
rest_noted rows catalog old new is noted =
    noted ∙ ap (λ (l : List Row). old ++ indexes_in l rows l) is
    ∙ ap (λ (l : List Row). old ++ map WrongIndex (map (λ (r : Row). r.0.key) l))
    (filtered_alike (λ r. not (is_paired_in (catalog_left rows) rows r)) (λ r. not (is_paired (rows_left rows) r)) (catalog_left rows)
    (all_weaker (λ (r : Row). is_catalog_row r ≡ true) (λ r. not (is_paired_in (catalog_left rows) rows r) ≡ not (is_paired (rows_left rows) r)) (λ r own. ap not (paired_here rows r own)) (catalog_left rows) (kept_right (rows 0) [] (rows 0))))
