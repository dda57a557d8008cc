-- The rows that log an index and its pairs.
use Rattle.std.proofs.Common.{◌≡◌, ℕ, ◌+◌, ◌<◌, ◌^◌, List, [], ◌∷◌, ◌++◌, Bool, true, false, cond, ◌==◌, ◌||◌, nat_lt, Option, None, Some, map, length, refl, ap, ap₂, sym, ◌∙◌, subst, ⊎_elim, arith, is_eq}
use Rattle.std.specs.List.{AllByRecursion}
use Rattle.std.proofs.lemmas.Bool.{cases_Bool, eqb-true, eqb-false, ltb-true, ltb-false, le-leb, cond-true}
use Rattle.std.proofs.lemmas.List.{map-append, append-nil}
use Rattle.je_order.specs.Order.{name_cmp}
use Rattle.je_order.specs.declared.txn_id.TxnId.{TxnId}
use Rattle.cursor_je.proofs.EdgeLaws.{name_same}
use Rattle.record_tree.specs.Logged.{is_made, makes_db}
use Rattle.record_tree.specs.declared.tree_change.TreeChange.{TreeChange}
use Rattle.store_model.specs.declared.kind.Kind.TheVariants.{Dup}
use Rattle.store_model.specs.declared.change.Change.{Change}
use Rattle.store_model.specs.declared.change.Change.TheVariants.{Set, MakeIndex}
use Rattle.store_model.specs.declared.extract.Extract.{Extract}
use Rattle.store_model.specs.declared.extract.Extract.TheVariants.{ByteSlice, Field}
use Rattle.store_model.specs.declared.index.Index.{Index}
use Rattle.store_model.specs.Store.{Pair, named, change_in}
use Rattle.store_model.specs.Evaluation.{plain_name}
use Rattle.store_model.specs.Refusals.{made_by}
use Rattle.db_catalog.specs.declared.db_record.DbRecord.{DbRecord}
use Rattle.db_catalog.specs.declared.db_kind.DbKind.{DbKind}
use Rattle.db_catalog.specs.Catalog.{IsKind, db_record_in, kind_bytes, record_bytes}
use Rattle.db_catalog.specs.Planning.{index_in_catalog, kind_of_catalog, logged_as}
use Rattle.log_replay.specs.Rows.{Rows, RowChange, row_changed, rows_changed, data_at, number_or_0, kind_or_plain, catalog_number}
use Rattle.log_replay.specs.Kept.{AllMayBeLogged}
use Rattle.log_replay.specs.Logging.{record_in, record_named, number_named, kind_named, row_changes, all_row_changes, last_db_after}
use Rattle.log_replay.proofs.ListLaws.{map-map}
use Rattle.log_replay.proofs.NameLaws.{data-with}
use Rattle.log_replay.proofs.LoggedLaws.{record_number, record_kind, index-is}
use Rattle.txn_core.specs.Planning.{row_by}
use Rattle.txn_core.specs.Plans.{catalog_planned, record_planned}
use Rattle.txn_core.specs.Fills.{pair_put, pair_planned, IsShortPair, IsNumberNext}
use Rattle.txn_core.proofs.PlanParts.{bytes_anew}
use Rattle.txn_core.proofs.RecordLaws.{records_rows, records_may, IsRightChange}
use Rattle.txn_core.proofs.CatalogPlanLaws.{catalog_rows, CanBeEncoded, CanChange}
use Rattle.txn_core.proofs.FilledLaws.{puts_in}

-- ---- the records once it is made

-- the record that the catalog has for it
abbrev pub record_made : ℕ → Index → DbRecord → DbRecord
record_made last index r = record { number = last + 1; kind = index_in_catalog r.number index.extract }

abbrev rows_made : ℕ → ℕ → List ℕ → Index → Rows → Rows
rows_made txn last db index rows = rows_changed (row_changes txn last (MakeIndex db index) rows) rows

named_made : (txn last : ℕ) (db : List ℕ) (index : Index) (rows : Rows) (r : DbRecord) → record_named rows index.primary ≡ Some r →
    record_named (rows_made txn last db index rows) db ≡ db_record_in (record_bytes (record_made last index r))
named_made txn last db index rows r is =
    let bytes : List ℕ = record_bytes (record_made last index r) in
    ap (λ (l : List RowChange). record_named (rows_changed l rows) db) (index-is txn last db index rows r is)
    ∙ ap record_in (data-with (plain_name db) (Some bytes) (plain_name db) (rows 0)
    ∙ cond-true (is_eq (name_cmp (plain_name db) (plain_name db))) (Some bytes) (data_at (plain_name db) (rows 0)) (ap is_eq (name_same (plain_name db))))

-- what is known of it
pub record IsMade (rows : Rows) (last number : ℕ) (index : Index) : Type 0 where
  pub width : last < 2 ^ 32
  pub next : IsNumberNext last number
  pub r : DbRecord
  pub named : record_named rows index.primary ≡ Some r
  pub kind : IsKind (index_in_catalog r.number index.extract)

-- its number, in the bytes of that record
number_in : (last number : ℕ) (kind : DbKind) → last < 2 ^ 32 → IsNumberNext last number → IsKind kind → catalog_number (record_bytes (record { number = last + 1; kind = kind })) ≡ number
number_in last number kind width next fits =
    ⊎_elim
    (λ (e : nat_lt (last + 1) (2 ^ 32) ≡ true). let low = ltb-true (last + 1) (2 ^ 32) e in record_number (record { number = last + 1; kind = kind }) (low, fits) ∙ sym (next.next low))
    (λ (e : nat_lt (last + 1) (2 ^ 32) ≡ false).
    let high = ltb-false (last + 1) (2 ^ 32) e in
    ap (λ (bytes : List ℕ). catalog_number (bytes ++ kind_bytes kind)) (sym (bytes_anew last width (omega (arith, high))))
    ∙ record_number (record { number = 0; kind = kind }) (omega arith, fits) ∙ sym (next.none (omega (arith, high))))
    (cases_Bool (nat_lt (last + 1) (2 ^ 32)))

number_made : (txn last number : ℕ) (db : List ℕ) (index : Index) (rows : Rows) → IsMade rows last number index → number_named (rows_made txn last db index rows) db ≡ number
number_made txn last number db index rows made =
    ap number_or_0 (named_made txn last db index rows made.r made.named) ∙ number_in last number (index_in_catalog made.r.number index.extract) made.width made.next made.kind

kind_made : (txn last number : ℕ) (db : List ℕ) (index : Index) (rows : Rows) → IsMade rows last number index → last + 1 < 2 ^ 32 → Dup ≡ kind_named (rows_made txn last db index rows) db
kind_made txn last number db index rows made low =
    sym (ap kind_or_plain (named_made txn last db index rows made.r made.named) ∙ record_kind (record_made last index made.r) (low, made.kind) ∙ is_dup index.extract)
  where
    is_dup : (extract : Extract) → kind_of_catalog (index_in_catalog made.r.number extract) ≡ Dup
    is_dup (ByteSlice offset len) = refl
    is_dup (Field field separator) = refl

-- ---- the rows of its pairs

no_record : number_or_0 (db_record_in []) ≡ 0
unfolding db_record_in
no_record = refl

-- data that is no record leaves a name without a number
number_left : (txn n : ℕ) (db : List ℕ) (p : Pair) (rows : Rows) → number_named rows db ≡ 0 → n ≡ 0 →
    number_named (row_changed (record { txn = txn; db = n; name = named p.0 p.1; value = Some [] }) rows) db ≡ 0
number_left txn n db p rows none is =
    ap (λ (m : ℕ). number_named (row_changed (record { txn = txn; db = m; name = named p.0 p.1; value = Some [] }) rows) db) is
    ∙ ap (λ (o : Option (List ℕ)). number_or_0 (record_in o)) (data-with (named p.0 p.1) (Some []) (plain_name db) (rows 0))
    ∙ by_test (is_eq (name_cmp (plain_name db) (named p.0 p.1)))
  where
    by_test : (b : Bool) → number_or_0 (record_in (cond b (Some []) (data_at (plain_name db) (rows 0)))) ≡ 0
    by_test true = no_record
    by_test false = none

rows_of_none : (txn last : ℕ) (db : List ℕ) (ps : List Pair) (rows : Rows) → number_named rows db ≡ 0 → map (row_by txn) (map (pair_planned 0) ps) ≡ all_row_changes txn last (puts_in db ps) rows
rows_of_none txn last db [] rows none = refl
rows_of_none txn last db (p ∷ ps) rows none =
    let c : RowChange = record { txn = txn; db = number_named rows db; name = named p.0 p.1; value = Some [] } in
    let make : ℕ → RowChange = λ n. record { txn = txn; db = n; name = named p.0 p.1; value = Some [] } in
    ap₂ (λ (n : ℕ) (l : List RowChange). make n ∷ l) (sym none)
    (rows_of_none txn (last_db_after last (Set db (named p.0 p.1) [])) db ps (row_changed c rows) (number_left txn (number_named rows db) db p rows none none))

rows_of_pairs : (txn last number : ℕ) (db : List ℕ) (ps : List Pair) (rows : Rows) → number_named rows db ≡ number → map (row_by txn) (map (pair_planned number) ps) ≡ all_row_changes txn last (puts_in db ps) rows
rows_of_pairs txn last number db ps rows is =
    ⊎_elim
    (λ (e : (number == 0) ≡ true).
    let none = eqb-true number 0 e in
    ap (λ (n : ℕ). map (row_by txn) (map (pair_planned n) ps)) none ∙ rows_of_none txn last db ps rows (is ∙ none))
    (λ (e : (number == 0) ≡ false).
    let has = eqb-false number 0 e in
    ap (map (row_by txn)) (sym (map-map (record_planned number) pair_put ps))
    ∙ records_rows txn last number db (map pair_put ps) rows (sym is) (λ none. has (sym is ∙ none))
    ∙ ap (λ (l : List Change). all_row_changes txn last l rows) (map-map (change_in db) pair_put ps))
    (cases_Bool (number == 0))

-- all rows are those of the model's changes
pub filled_rows : (txn last number : ℕ) (db : List ℕ) (index : Index) (rows : Rows) (makes : Option ℕ) (ps : List Pair) → CanChange rows (MakeIndex db index) → IsMade rows last number index →
    map (row_by txn) (map (catalog_planned makes) (logged_as (record_named rows) (last + 1) (MakeIndex db index)) ++ map (pair_planned number) ps)
    ≡ all_row_changes txn last (MakeIndex db index ∷ puts_in db ps) rows
filled_rows txn last number db index rows makes ps can made =
    let first : List TreeChange = map (catalog_planned makes) (logged_as (record_named rows) (last + 1) (MakeIndex db index)) in
    map-append (row_by txn) first (map (pair_planned number) ps)
    ∙ ap₂ (λ (l m : List RowChange). l ++ m) (catalog_rows makes txn last rows (MakeIndex db index) can ∙ append-nil (row_changes txn last (MakeIndex db index) rows))
    (rows_of_pairs txn (last_db_after last (MakeIndex db index)) number db ps (rows_made txn last db index rows) (number_made txn last number db index rows made))

-- ---- the other parts

pairs_right : (ps : List Pair) → AllByRecursion IsShortPair ps → AllByRecursion (IsRightChange Dup) (map pair_put ps)
pairs_right [] short = tt
pairs_right (p ∷ ps) short = (le-leb (length p.1) 4096 short.0.1, pairs_right ps short.1)

pub filled_may : (last number : ℕ) (db : List ℕ) (index : Index) (rows : Rows) (ps : List Pair) → IsMade rows last number index → last + 1 < 2 ^ 32 → AllByRecursion IsShortPair ps →
    AllMayBeLogged (rows_made 0 last db index rows) (last_db_after last (MakeIndex db index)) (puts_in db ps)
filled_may last number db index rows ps made low short =
    let after : Rows = rows_made 0 last db index rows in
    let number_is = number_made 0 last number db index rows made ∙ made.next.next low in
    subst (AllMayBeLogged after (last_db_after last (MakeIndex db index))) (map-map (change_in db) pair_put ps)
    (records_may (last_db_after last (MakeIndex db index)) Dup db (map pair_put ps) after (kind_made 0 last number db index rows made low) (λ none. above last (sym number_is ∙ none)) (pairs_right ps short))
  where
    above : (n : ℕ) → n + 1 ≡ 0 → ⊥
    above n e = absurd (omega (arith, e))

pub pairs_encoded : (txn : TxnId) (number : ℕ) (ps : List Pair) → txn.0 < 2 ^ 64 → number < 2 ^ 32 → AllByRecursion IsShortPair ps → AllByRecursion (CanBeEncoded txn) (map (pair_planned number) ps)
pairs_encoded txn number [] low width short = tt
pairs_encoded txn number (p ∷ ps) low width short = ((low, width, short.0, omega arith), pairs_encoded txn number ps low width short.1)

pub number_width : (last number : ℕ) → IsNumberNext last number → number < 2 ^ 32
number_width last number next =
    ⊎_elim (λ (e : nat_lt (last + 1) (2 ^ 32) ≡ true). let low = ltb-true (last + 1) (2 ^ 32) e in let is = next.next low in omega (arith, low, is))
    (λ (e : nat_lt (last + 1) (2 ^ 32) ≡ false). let high = ltb-false (last + 1) (2 ^ 32) e in let is = next.none (omega (arith, high)) in omega (arith, is))
    (cases_Bool (nat_lt (last + 1) (2 ^ 32)))

pub puts_make_none : (db : List ℕ) (ps : List Pair) → made_by (puts_in db ps) ≡ 0
puts_make_none db [] = refl
puts_make_none db (p ∷ ps) = puts_make_none db ps

pub pairs_make_none : (d number : ℕ) (ps : List Pair) → is_made d (map (pair_planned number) ps) ≡ false
pairs_make_none d number [] = refl
pairs_make_none d number (p ∷ ps) = pairs_make_none d number ps

pub first_made : (d : ℕ) (first rest : List TreeChange) → is_made d rest ≡ false → is_made d (first ++ rest) ≡ is_made d first
first_made d [] rest none = none
first_made d (c ∷ first) rest none = ap (λ (b : Bool). makes_db d c.makes || b) (first_made d first rest none)

pub pairs_of_it : (last number : ℕ) (ps : List Pair) → number ≡ last → AllByRecursion (λ r. (r.db ≡ last) × (r.makes ≡ None)) (map (pair_planned number) ps)
pairs_of_it last number [] is = tt
pairs_of_it last number (p ∷ ps) is = ((is, refl), pairs_of_it last number ps is)
