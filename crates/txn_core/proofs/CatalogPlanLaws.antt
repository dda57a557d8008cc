-- What a call on the catalog comes to is what the model says of it.
use Rattle.std.proofs.Common.{◌≡◌, ◌≢◌, ℕ, ◌+◌, ◌-◌, ◌<◌, ◌≤◌, ◌^◌, List, [], ◌∷◌, ◌++◌, Bool, true, false, cond, not, ◌&&◌, ◌==◌, nat_le, nat_lt, ◌||◌, Option, None, Some, map, filter, length, sum_by, option_map, is_some, IsTrue, refl, ap, ap₂, sym, ◌∙◌, subst, ⊎_elim, ◌⊎◌, inl, arith, length-append, Ordering, Less, Equal, Greater, is_eq, is_lt, is_gt, Result, IfOk}
use Rattle.std.specs.List.{AllByRecursion, list_all, list_any}
use Rattle.std.specs.Int.{w32, to_be_bytes}
use Rattle.std.proofs.lemmas.Bool.{cases_Bool, and_parts, true≢false, false≢true, eqb-true, eqb-false, leb-true, leb-false, lt-ltb}
use Rattle.std.proofs.lemmas.Option.{none-some, same_Some}
use Rattle.std.proofs.lemmas.List.{length-map}
use Rattle.std.proofs.lemmas.List.Sums.{sum_by-cons, sum_by-append}
use Rattle.je_bytes.proofs.Fields.{length-to_be_bytes}
use Rattle.je_order.specs.Order.{bytes_cmp, name_cmp, is_same_bytes}
use Rattle.je_order.specs.Words.{is_word, is_word_character}
use Rattle.je_order.proofs.Lists.{all_weaker, all_kept}
use Rattle.je_order.proofs.Results.{if_ok}
use Rattle.je_order.specs.declared.txn_id.TxnId.{TxnId}
use Rattle.log_entry.specs.Body.{IsEntry}
use Rattle.record_tree.specs.Logged.{entry_for, is_made, makes_db}
use Rattle.db_catalog.specs.declared.db_record.DbRecord.{DbRecord}
use Rattle.db_catalog.specs.declared.catalog_change.CatalogChange.{CatalogChange}
use Rattle.db_catalog.specs.declared.catalog_change.CatalogChange.TheVariants.{Put as PutRecord, Delete as DeleteRecord}
use Rattle.db_catalog.specs.declared.db_kind.DbKind.{DbKind}
use Rattle.db_catalog.specs.declared.db_kind.DbKind.TheVariants.{Plain as PlainRecord, Dup as DupRecord, SliceIndex, FieldIndex}
use Rattle.db_catalog.specs.Catalog.{kind_bytes, record_bytes}
use Rattle.db_catalog.specs.Planning.{is_catalog_call, is_primary_record, index_in_catalog, outcome_unless, outcome_of, logged_as, indexed, moved, renewed, renumbered}
use Rattle.store_model.specs.declared.store.TheConstants.{LAST_TXN, MOST_DATABASES}
use Rattle.store_model.specs.declared.store.Store.{Store}
use Rattle.store_model.specs.declared.store.Database.{Database}
use Rattle.store_model.specs.declared.kind.Kind.{Kind}
use Rattle.store_model.specs.declared.kind.Kind.TheVariants.{Dup}
use Rattle.store_model.specs.declared.totals.Totals.{Totals}
use Rattle.store_model.specs.declared.call.Call.{Call}
use Rattle.store_model.specs.declared.call.Call.TheVariants.{List as Lists, Create, CreateIndex, Remove as Removes, Rename as Renames, Truncate}
use Rattle.store_model.specs.declared.change.Change.{Change}
use Rattle.store_model.specs.declared.change.Change.TheVariants.{Set, Unset, Make, MakeIndex, Remove, Rename, Empty}
use Rattle.store_model.specs.declared.answer.Answer.{Answer}
use Rattle.store_model.specs.declared.index.Index.{Index}
use Rattle.store_model.specs.declared.answer.Answer.TheVariants.{HasIndex, IdsEnded, NameTaken, TooMany}
use Rattle.store_model.specs.Store.{Pair, database_of, new_database, record_count, changed, with_pairs, with_name, with_primary, in_database, databases_with, databases_without, databases_renamed}
use Rattle.store_model.specs.Evaluation.{Outcome, answers, changes_by, emptying, evaluation, evaluation_in, plain_name}
use Rattle.store_model.specs.Refusals.{made_by, or_refusal, creation_refusal, access_refusal, taken_refusal, indexed_refusal}
use Rattle.store_model.specs.Indexes.{is_index_of}
use Rattle.je_answers.specs.Alone.{Alone}
use Rattle.log_replay.specs.Rows.{Row, Rows, RowChange, data_at, catalog_number, is_catalog_row, is_indexed, is_environment, IsRising, pair_of, database_in, store_of, numbers_of}
use Rattle.log_replay.specs.Logging.{record_in, record_named, number_named, kind_named, index_named, catalog_row_change, all_row_changes}
use Rattle.log_replay.specs.Kept.{MayBeLogged}
use Rattle.log_replay.proofs.ListLaws.{filter-map, found, none_found}
use Rattle.log_replay.proofs.RowLaws.{name_cmp-plain}
use Rattle.log_replay.proofs.StoreLaws.{environment_parts, catalog_plain, row_named, key_of_row, database_of-store_of, database_of-numbered, database_of-absent, length-databases}
use Rattle.log_replay.proofs.LoggedLaws.{record_for, record_there, primary_record}
use Rattle.txn_core.specs.Known.{Known, has_number}
use Rattle.txn_core.specs.declared.planned.Planned.{Planned}
use Rattle.txn_core.specs.declared.planned.Planned.TheVariants.{Answered, Logs, Fills}
use Rattle.txn_core.specs.declared.planned_changes.PlannedChanges.{PlannedChanges}
use Rattle.record_tree.specs.declared.tree_change.TreeChange.{TreeChange}
use Rattle.txn_core.specs.Totals.{totals_of}
use Rattle.txn_core.specs.Planning.{outcome_alone, row_by, CanPlan, HasModel, HaveFewNew, IsPlannedLog, IsPlanned}
use Rattle.txn_core.specs.Plans.{catalog_planned, totals_by, IsNamed, HasFitting, number_made, LogsCatalog, IsCatalogPlan}
use Rattle.txn_core.proofs.ViewLaws.{one_found}
use Rattle.txn_core.proofs.IndexViews.{indexed_in}
use Rattle.txn_core.proofs.NoIndexes.{IsOtherCall, first_is_no_index}
use Rattle.txn_core.proofs.NumberLaws.{or_false, same_either, not_below}

-- ---- the outcome

-- the second of no refusals, and none
pub refused_first : (first : Option Answer) → or_refusal first None ≡ first
refused_first None = refl
refused_first (Some refusal) = refl

abbrev pub counted : Option Answer → Outcome → Bool → Outcome
counted rest outcome left = outcome_unless (or_refusal (cond left None (Some IdsEnded)) rest) outcome

-- where a number is left for its transaction, a call on the catalog comes to what the catalog says
pub outcome_catalog : (p : Alone) (session : ℕ) (call : Call) → is_catalog_call call ≡ true → p.last_txn < LAST_TXN → outcome_alone p session call ≡ outcome_of call p.store
outcome_catalog p session Lists is h = ap (counted None (evaluation Lists p.store)) (lt-ltb p.last_txn LAST_TXN h)
outcome_catalog p session (Create db kind) is h =
    let refusal : Option Answer = creation_refusal (is_some (database_of db p.store)) (length p.store.databases) in
    ap (counted (or_refusal refusal None) (evaluation (Create db kind) p.store)) (lt-ltb p.last_txn LAST_TXN h)
    ∙ ap (λ (r : Option Answer). outcome_unless r (evaluation (Create db kind) p.store)) (refused_first refusal)
outcome_catalog p session (Removes db) is h =
    let refusal : Option Answer = indexed_refusal (list_any (is_index_of db) p.store.databases) in
    let there : Option Answer = access_refusal (is_some (database_of db p.store)) in
    ap (counted (or_refusal there (or_refusal refusal None)) (evaluation (Removes db) p.store)) (lt-ltb p.last_txn LAST_TXN h)
    ∙ ap (λ (r : Option Answer). outcome_unless (or_refusal there r) (evaluation (Removes db) p.store)) (refused_first refusal)
outcome_catalog p session (Renames db to) is h =
    let refusal : Option Answer = taken_refusal (is_some (database_of to p.store)) in
    let there : Option Answer = access_refusal (is_some (database_of db p.store)) in
    ap (counted (or_refusal there (or_refusal refusal None)) (evaluation (Renames db to) p.store)) (lt-ltb p.last_txn LAST_TXN h)
    ∙ ap (λ (r : Option Answer). outcome_unless (or_refusal there r) (evaluation (Renames db to) p.store)) (refused_first refusal)
outcome_catalog p session (Truncate db) is h =
    let refusal : Option Answer = indexed_refusal (list_any (is_index_of db) p.store.databases) in
    let there : Option Answer = access_refusal (is_some (database_of db p.store)) in
    ap (counted (or_refusal there (or_refusal refusal None)) (evaluation (Truncate db) p.store)) (lt-ltb p.last_txn LAST_TXN h)
    ∙ ap (λ (r : Option Answer). outcome_unless (or_refusal there r) (evaluation (Truncate db) p.store)) (refused_first refusal)
outcome_catalog p session call is h = absurd (false≢true is)

-- an outcome that changes nothing
pub only_answers : (o : Outcome) (answer : Answer) → o.answer ≡ answer → o.changes ≡ [] → o ≡ answers answer
only_answers o answer a c = let make : Answer → List Change → Outcome = λ x y. record { answer = x; changes = y } in ap₂ make a c

-- ---- what a call changes

abbrev has_change : List Change → Bool
has_change [] = false
has_change (c ∷ cs) = true

pub no_change : (change : Change) (more : List Change) → [] ≡ change ∷ more → ⊥
no_change change more h = false≢true (ap has_change h)

abbrev pub first_or : Change → List Change → Change
first_or other [] = other
first_or other (c ∷ cs) = c

abbrev behind_first : List Change → List Change
behind_first [] = []
behind_first (c ∷ cs) = cs

-- an outcome that changes something was not refused
unrefused : (refusal : Option Answer) (o : Outcome) (change : Change) (more : List Change) → (outcome_unless refusal o).changes ≡ change ∷ more → (refusal ≡ None) × (o.changes ≡ change ∷ more)
unrefused None o change more h = (refl, h)
unrefused (Some refusal) o change more h = absurd (no_change change more h)

-- a call on a database changes something where it is there
on_there : (call : Call) (one : Change) (taken : Option Answer) (store : Store) (o : Option Database) (change : Change) (more : List Change) →
    ((d : Database) → o ≡ Some d → evaluation_in call store (Some d) ≡ changes_by one) →
    (outcome_unless (or_refusal (access_refusal (is_some o)) taken) (evaluation_in call store o)).changes ≡ change ∷ more →
    (is_some o ≡ true) × (taken ≡ None) × (one ∷ [] ≡ change ∷ more)
on_there call one taken store None change more by h = absurd (no_change change more h)
on_there call one taken store (Some d) change more by h =
    let some = unrefused taken (evaluation_in call store (Some d)) change more h in
    (refl, some.0, sym (ap (λ (x : Outcome). x.changes) (by d refl)) ∙ some.1)

pub creation_free : (taken : Bool) (count : ℕ) → creation_refusal taken count ≡ None → (taken ≡ false) × (count < MOST_DATABASES)
creation_free true count h = absurd (none-some NameTaken (sym h))
creation_free false count h = (refl, by_test (nat_le MOST_DATABASES count) refl h)
  where
    by_test : (b : Bool) → nat_le MOST_DATABASES count ≡ b → cond b (Some (TooMany MOST_DATABASES)) None ≡ None → count < MOST_DATABASES
    by_test true e none = absurd (none-some (TooMany MOST_DATABASES) (sym none))
    by_test false e none = let over = leb-false MOST_DATABASES count e in omega (arith, over)

name_free : (taken : Bool) → taken_refusal taken ≡ None → taken ≡ false
name_free true h = absurd (none-some NameTaken (sym h))
name_free false h = refl

-- a name without a database has no number, and one with a database has one
pub number_free : (rows : Rows) (db : List ℕ) → is_environment rows ≡ true → is_some (database_of db (store_of rows)) ≡ false → number_named rows db ≡ 0
number_free rows db env h =
    ⊎_elim
    (λ (e : (number_named rows db == 0) ≡ true). eqb-true (number_named rows db) 0 e)
    (λ (e : (number_named rows db == 0) ≡ false).
    absurd (true≢false (sym (ap is_some (database_of-numbered rows db env (eqb-false (number_named rows db) 0 e))) ∙ h)))
    (cases_Bool (number_named rows db == 0))

pub number_there : (rows : Rows) (db : List ℕ) → is_environment rows ≡ true → is_some (database_of db (store_of rows)) ≡ true → number_named rows db ≢ 0
number_there rows db env h none = true≢false (sym h ∙ ap is_some (database_of-absent rows db env none))

-- a database without indexes
index_free : (indexed_ : Bool) → indexed_refusal indexed_ ≡ None → indexed_ ≡ false
index_free true h = absurd (none-some HasIndex (sym h))
index_free false h = refl

-- an index is not emptied
emptied_there : (db : List ℕ) (o : Option Index) (change : Change) (more : List Change) → (emptying db o).changes ≡ change ∷ more → Empty db ∷ [] ≡ change ∷ more
emptied_there db None change more h = h
emptied_there db (Some index) change more h = absurd (no_change change more h)

emptied_on : (db : List ℕ) (indexed_ : Bool) (store : Store) (o : Option Database) (change : Change) (more : List Change) →
    (outcome_unless (or_refusal (access_refusal (is_some o)) (indexed_refusal indexed_)) (evaluation_in (Truncate db) store o)).changes ≡ change ∷ more →
    (is_some o ≡ true) × (indexed_ ≡ false) × (Empty db ∷ [] ≡ change ∷ more)
emptied_on db indexed_ store None change more h = absurd (no_change change more h)
emptied_on db indexed_ store (Some d) change more h =
    let some = unrefused (indexed_refusal indexed_) (evaluation_in (Truncate db) store (Some d)) change more h in
    (refl, index_free indexed_ some.0, emptied_there db d.index change more some.1)

-- the databases that a change is on are there, a name that it gives is free, and one that goes or is emptied has no index
abbrev pub CanChange : Rows → Change → Type 0
CanChange rows (Make db kind) = (number_named rows db ≡ 0) × (length (rows 0) < MOST_DATABASES)
CanChange rows (MakeIndex db index) = (number_named rows db ≡ 0) × (length (rows 0) < MOST_DATABASES) × (is_primary_record (record_named rows index.primary) ≡ true)
CanChange rows (Remove db) = (number_named rows db ≢ 0) × (is_indexed (rows 0) (number_named rows db) ≡ false)
CanChange rows (Rename db to) = (number_named rows db ≢ 0) × (number_named rows to ≡ 0)
CanChange rows (Empty db) = (number_named rows db ≢ 0) × (is_indexed (rows 0) (number_named rows db) ≡ false)
CanChange rows change = ⊥

one_change : (rows : Rows) (one change : Change) (more : List Change) → one ∷ [] ≡ change ∷ more → CanChange rows one → (more ≡ []) × CanChange rows change
one_change rows one change more h can = (sym (ap behind_first h), subst (CanChange rows) (ap (first_or one) h) can)

-- a call changes the catalog by one change, which can be made
pub catalog_changes : (rows : Rows) (call : Call) (change : Change) (more : List Change) → is_environment rows ≡ true → IsRising (rows 0) → is_catalog_call call ≡ true →
    (outcome_of call (store_of rows)).changes ≡ change ∷ more → (more ≡ []) × CanChange rows change
catalog_changes rows Lists change more env up is h = absurd (no_change change more h)
catalog_changes rows (Create db kind) change more env up is h =
    let some = unrefused (creation_refusal (is_some (database_of db (store_of rows))) (length (store_of rows).databases)) (changes_by (Make db kind)) change more h in
    let free = creation_free (is_some (database_of db (store_of rows))) (length (store_of rows).databases) some.0 in
    one_change rows (Make db kind) change more some.1
    (number_free rows db env free.0, subst (λ n. n < MOST_DATABASES) (length-databases rows) free.1)
catalog_changes rows (Removes db) change more env up is h =
    let there = on_there (Removes db) (Remove db) (indexed_refusal (list_any (is_index_of db) (store_of rows).databases)) (store_of rows) (database_of db (store_of rows)) change more (λ d is. refl) h in
    one_change rows (Remove db) change more there.2
    (number_there rows db env there.0, sym (indexed_in rows db env up) ∙ index_free (list_any (is_index_of db) (store_of rows).databases) there.1)
catalog_changes rows (Renames db to) change more env up is h =
    let there = on_there (Renames db to) (Rename db to) (taken_refusal (is_some (database_of to (store_of rows)))) (store_of rows) (database_of db (store_of rows)) change more (λ d is. refl) h in
    one_change rows (Rename db to) change more there.2
    (number_there rows db env there.0, number_free rows to env (name_free (is_some (database_of to (store_of rows))) there.1))
catalog_changes rows (Truncate db) change more env up is h =
    let there = emptied_on db (list_any (is_index_of db) (store_of rows).databases) (store_of rows) (database_of db (store_of rows)) change more h in
    one_change rows (Empty db) change more there.2 (number_there rows db env there.0, sym (indexed_in rows db env up) ∙ there.1)
catalog_changes rows call change more env up is h = absurd (false≢true is)

-- ---- what is logged

-- the records that are planned are the changes of the catalog's records
planned_changes : (makes : Option ℕ) (txn : ℕ) (l : List CatalogChange) → map (row_by txn) (map (catalog_planned makes) l) ≡ map (catalog_row_change txn) l ++ []
planned_changes makes txn [] = refl
planned_changes makes txn (PutRecord db r ∷ l) = ap (λ (m : List RowChange). catalog_row_change txn (PutRecord db r) ∷ m) (planned_changes makes txn l)
planned_changes makes txn (DeleteRecord db ∷ l) = ap (λ (m : List RowChange). catalog_row_change txn (DeleteRecord db) ∷ m) (planned_changes makes txn l)

pub catalog_rows : (makes : Option ℕ) (txn last_db : ℕ) (rows : Rows) (change : Change) → CanChange rows change →
    map (row_by txn) (map (catalog_planned makes) (logged_as (record_named rows) (last_db + 1) change)) ≡ all_row_changes txn last_db (change ∷ []) rows
catalog_rows makes txn last_db rows (Set db at value) can = absurd can
catalog_rows makes txn last_db rows (Unset db at) can = absurd can
catalog_rows makes txn last_db rows (Make db kind) can = planned_changes makes txn (logged_as (record_named rows) (last_db + 1) (Make db kind))
catalog_rows makes txn last_db rows (MakeIndex db index) can = planned_changes makes txn (logged_as (record_named rows) (last_db + 1) (MakeIndex db index))
catalog_rows makes txn last_db rows (Remove db) can = planned_changes makes txn (logged_as (record_named rows) (last_db + 1) (Remove db))
catalog_rows makes txn last_db rows (Rename db to) can = planned_changes makes txn (logged_as (record_named rows) (last_db + 1) (Rename db to))
catalog_rows makes txn last_db rows (Empty db) can = planned_changes makes txn (logged_as (record_named rows) (last_db + 1) (Empty db))

-- the change may be logged where its number has its width
pub catalog_may : (rows : Rows) (last_db : ℕ) (change : Change) → CanChange rows change → IsNamed change → HasFitting rows change → last_db + made_by (change ∷ []) < 2 ^ 32 →
    MayBeLogged rows last_db change
catalog_may rows last_db (Set db at value) can named fits low = absurd can
catalog_may rows last_db (Unset db at) can named fits low = absurd can
catalog_may rows last_db (Make db kind) can named fits low = (can.0, named, can.1, omega (arith, low))
catalog_may rows last_db (MakeIndex db index) can named fits low = (can.0, named, can.1, omega (arith, low), is_true can.2, fits)
  where
    is_true : {b : Bool} → b ≡ true → IsTrue b
    is_true h = h
catalog_may rows last_db (Remove db) can named fits low = can
catalog_may rows last_db (Rename db to) can named fits low = (can.0, can.1, named, fits)
catalog_may rows last_db (Empty db) can named fits low = (can.0, omega (arith, low), fits, can.1)

-- ---- entries

-- a database's name is short
word_short : (db : List ℕ) → is_word db ≡ true → length db ≤ 64
word_short db h =
    leb-true (length db) 64
    (and_parts (not (length db == 0)) (nat_le (length db) 64) (and_parts (not (length db == 0) && nat_le (length db) 64) (list_all is_word_character db) h).0).1

-- a database that is there has such a name
word_there : (rows : Rows) (db : List ℕ) → is_environment rows ≡ true → number_named rows db ≢ 0 → is_word db ≡ true
word_there rows db h has =
    let env = environment_parts rows h in
    let row = row_named rows db has in
    let right = (found (λ (r : Row). is_catalog_row r ≡ true) (λ r. is_eq (name_cmp r.0 (plain_name db))) (rows 0) row.0 row.1 env.catalog).0 in
    let word : is_word row.0.0.key ≡ true =
    (and_parts (is_word row.0.0.key) (length row.0.0.dup == 0) (and_parts (is_word row.0.0.key && (length row.0.0.dup == 0)) (not (catalog_number row.0.1 == 0)) right).0).0 in
    ap is_word (sym (key_of_row (rows 0) db row.0 env.catalog row.1)) ∙ word

record_short : (r : DbRecord) → length (record_bytes r) ≤ 65536
record_short r =
    let four = length-to_be_bytes w32 r.number in
    let both = length-append (to_be_bytes w32 r.number) (kind_bytes r.kind) in
    let few = kind_short r.kind in
    omega (arith, four, both, few)
  where
    kind_short : (kind : DbKind) → length (kind_bytes kind) ≤ 13
    kind_short PlainRecord = omega arith
    kind_short DupRecord = omega arith
    kind_short (SliceIndex primary offset len) =
        let a = length-to_be_bytes w32 primary in
        let b = length-to_be_bytes w32 offset in
        let c = length-to_be_bytes w32 len in
        let d = length-append (to_be_bytes w32 primary) (to_be_bytes w32 offset ++ to_be_bytes w32 len) in
        let e = length-append (to_be_bytes w32 offset) (to_be_bytes w32 len) in
        omega (arith, a, b, c, d, e)
    kind_short (FieldIndex primary number separator) =
        let a = length-to_be_bytes w32 primary in
        let b = length-to_be_bytes w32 number in
        let d = length-append (to_be_bytes w32 primary) (to_be_bytes w32 number ++ separator ∷ []) in
        let e = length-append (to_be_bytes w32 number) (separator ∷ []) in
        omega (arith, a, b, d, e)

-- a change that is planned makes an entry that can be encoded
abbrev pub CanBeEncoded : TxnId → TreeChange → Type 0
CanBeEncoded txn c = IsEntry (entry_for txn c.db c.name c.value)

put_encoded : (makes : Option ℕ) (txn : TxnId) (db : List ℕ) (r : DbRecord) → txn.0 < 2 ^ 64 → is_word db ≡ true → CanBeEncoded txn (catalog_planned makes (PutRecord db r))
put_encoded makes txn db r low word = let short = word_short db word in (low, omega arith, (omega (arith, short), omega arith), record_short r)

delete_encoded : (makes : Option ℕ) (txn : TxnId) (db : List ℕ) → txn.0 < 2 ^ 64 → is_word db ≡ true → CanBeEncoded txn (catalog_planned makes (DeleteRecord db))
delete_encoded makes txn db low word = let short = word_short db word in (low, omega arith, (omega (arith, short), omega arith))

pub catalog_entries : (makes : Option ℕ) (txn : TxnId) (last_db : ℕ) (rows : Rows) (change : Change) → is_environment rows ≡ true → CanChange rows change → IsNamed change → txn.0 < 2 ^ 64 →
    AllByRecursion (CanBeEncoded txn) (map (catalog_planned makes) (logged_as (record_named rows) (last_db + 1) change))
catalog_entries makes txn last_db rows (Set db at value) env can named low = absurd can
catalog_entries makes txn last_db rows (Unset db at) env can named low = absurd can
catalog_entries makes txn last_db rows (Make db kind) env can named low = (put_encoded makes txn db (record_for (last_db + 1) kind) low named, tt)
catalog_entries makes txn last_db rows (MakeIndex db index) env can named low =
    let r = primary_record (record_named rows index.primary) can.2 in
    subst (λ (o : Option DbRecord). AllByRecursion (CanBeEncoded txn) (map (catalog_planned makes) (indexed db (last_db + 1) index.extract o))) (sym r.1)
    (put_encoded makes txn db (record { number = last_db + 1; kind = index_in_catalog r.0.number index.extract }) low named, tt)
catalog_entries makes txn last_db rows (Remove db) env can named low = (delete_encoded makes txn db low (word_there rows db env can.0), tt)
catalog_entries makes txn last_db rows (Rename db to) env can named low =
    let r = record_there (record_named rows db) can.0 in
    subst (λ (o : Option DbRecord). AllByRecursion (CanBeEncoded txn) (map (catalog_planned makes) (moved db to o))) (sym r.1)
    (delete_encoded makes txn db low (word_there rows db env can.0), (put_encoded makes txn to r.0 low named, tt))
catalog_entries makes txn last_db rows (Empty db) env can named low =
    let r = record_there (record_named rows db) can.0 in
    subst (λ (o : Option DbRecord). AllByRecursion (CanBeEncoded txn) (map (catalog_planned makes) (renewed db (last_db + 1) o))) (sym r.1)
    (put_encoded makes txn db (renumbered (last_db + 1) r.0) low (word_there rows db env can.0), tt)

-- ---- databases that are there, and one that is made

-- each change is of the catalog
pub all_in_catalog : (numbers : List ℕ) (makes : Option ℕ) (l : List CatalogChange) → AllByRecursion (λ (c : TreeChange). has_number numbers c.db ≡ true) (map (catalog_planned makes) l)
all_in_catalog numbers makes [] = tt
all_in_catalog numbers makes (PutRecord db r ∷ l) = (refl, all_in_catalog numbers makes l)
all_in_catalog numbers makes (DeleteRecord db ∷ l) = (refl, all_in_catalog numbers makes l)

-- where the number is the next one, the one that is made is the last
next_made : (makes : Option ℕ) (last d : ℕ) → makes ≡ Some (last + 1) → (makes_db d makes || false) ≡ (nat_lt last (last + 1) && (d == last + 1))
next_made makes last d is =
    ap (λ (o : Option ℕ). makes_db d o || false) is ∙ or_false (last + 1 == d) ∙ same_either (last + 1) d
    ∙ sym (ap (λ (b : Bool). b && (d == last + 1)) (lt-ltb last (last + 1) (omega arith)))

-- where no number is allocated, none is made
none_made : (last d : ℕ) → false ≡ (nat_lt last (last + 0) && (d == last + 0))
none_made last d = sym (ap (λ (b : Bool). b && (d == last + 0)) (not_below last))

pub catalog_made : (makes : Option ℕ) (last_db : ℕ) (rows : Rows) (change : Change) → CanChange rows change → makes ≡ number_made (last_db + 1) change → (d : ℕ) →
    is_made d (map (catalog_planned makes) (logged_as (record_named rows) (last_db + 1) change))
    ≡ (nat_lt last_db (last_db + made_by (change ∷ [])) && (d == last_db + made_by (change ∷ [])))
catalog_made makes last_db rows (Set db at value) can is d = absurd can
catalog_made makes last_db rows (Unset db at) can is d = absurd can
catalog_made makes last_db rows (Make db kind) can is d = next_made makes last_db d is
catalog_made makes last_db rows (MakeIndex db index) can is d =
    ap (λ (o : Option DbRecord). is_made d (map (catalog_planned makes) (indexed db (last_db + 1) index.extract o))) (primary_record (record_named rows index.primary) can.2).1
    ∙ next_made makes last_db d is
catalog_made makes last_db rows (Remove db) can is d = none_made last_db d
catalog_made makes last_db rows (Rename db to) can is d =
    ap (λ (o : Option DbRecord). is_made d (map (catalog_planned makes) (moved db to o))) (record_there (record_named rows db) can.0).1
    ∙ ap (λ (o : Option ℕ). makes_db d o || false) is ∙ none_made last_db d
catalog_made makes last_db rows (Empty db) can is d =
    ap (λ (o : Option DbRecord). is_made d (map (catalog_planned makes) (renewed db (last_db + 1) o))) (record_there (record_named rows db) can.0).1
    ∙ next_made makes last_db d is

-- ---- sums over databases

-- those that a test leaves out and those that it keeps
parted : (f : Database → ℕ) (p : Database → Bool) (ds : List Database) → sum_by f (filter (λ d. not (p d)) ds) + sum_by f (filter p ds) ≡ sum_by f ds
parted f p [] = refl
parted f p (d ∷ ds) = by_test (p d) (parted f p ds)
  where
    by_test : (b : Bool) → sum_by f (filter (λ x. not (p x)) ds) + sum_by f (filter p ds) ≡ sum_by f ds →
        sum_by f (cond (not b) (d ∷ filter (λ x. not (p x)) ds) (filter (λ x. not (p x)) ds)) + sum_by f (cond b (d ∷ filter p ds) (filter p ds)) ≡ sum_by f (d ∷ ds)
    by_test true rest = let one = sum_by-cons f d (filter p ds) in let all = sum_by-cons f d ds in omega (arith, rest, one, all)
    by_test false rest = let one = sum_by-cons f d (filter (λ x. not (p x)) ds) in let all = sum_by-cons f d ds in omega (arith, rest, one, all)

-- where none has the name, those that stand before it and those that stand behind it are all
below_above : (f : Database → ℕ) (name : List ℕ) (ds : List Database) → AllByRecursion (λ d. is_same_bytes d.name name ≡ false) ds →
    sum_by f (filter (λ d. is_lt (bytes_cmp d.name name)) ds) + sum_by f (filter (λ d. is_gt (bytes_cmp d.name name)) ds) ≡ sum_by f ds
below_above f name [] h = refl
below_above f name (d ∷ ds) h = by_order (bytes_cmp d.name name) h.0 (below_above f name ds h.1)
  where
    by_order : (o : Ordering) → is_eq o ≡ false →
        sum_by f (filter (λ x. is_lt (bytes_cmp x.name name)) ds) + sum_by f (filter (λ x. is_gt (bytes_cmp x.name name)) ds) ≡ sum_by f ds →
        sum_by f (cond (is_lt o) (d ∷ filter (λ x. is_lt (bytes_cmp x.name name)) ds) (filter (λ x. is_lt (bytes_cmp x.name name)) ds))
        + sum_by f (cond (is_gt o) (d ∷ filter (λ x. is_gt (bytes_cmp x.name name)) ds) (filter (λ x. is_gt (bytes_cmp x.name name)) ds)) ≡ sum_by f (d ∷ ds)
    by_order Less other rest =
        let one = sum_by-cons f d (filter (λ x. is_lt (bytes_cmp x.name name)) ds) in let all = sum_by-cons f d ds in omega (arith, rest, one, all)
    by_order Equal other rest = absurd (true≢false other)
    by_order Greater other rest =
        let one = sum_by-cons f d (filter (λ x. is_gt (bytes_cmp x.name name)) ds) in let all = sum_by-cons f d ds in omega (arith, rest, one, all)

-- one more
sum_with : (f : Database → ℕ) (new : Database) (ds : List Database) → AllByRecursion (λ d. is_same_bytes d.name new.name ≡ false) ds →
    sum_by f (databases_with new ds) ≡ f new + sum_by f ds
sum_with f new ds h =
    let higher : List Database = filter (λ d. is_gt (bytes_cmp d.name new.name)) ds in
    let both = sum_by-append f (filter (λ d. is_lt (bytes_cmp d.name new.name)) ds) (new ∷ higher) in
    let one = sum_by-cons f new higher in
    let others = below_above f new.name ds h in
    omega (arith, both, one, others)

-- the database of a name that has a number
abbrev pub database_numbered : Rows → List ℕ → Database
database_numbered rows db = record { name = db; kind = kind_named rows db; index = index_named rows db; pairs = map (pair_of (kind_named rows db)) (rows (number_named rows db)) }

-- is the only one that has the name
only_named : (rows : Rows) (db : List ℕ) → is_environment rows ≡ true → IsRising (rows 0) → number_named rows db ≢ 0 →
    filter (λ d. is_same_bytes d.name db) (store_of rows).databases ≡ database_numbered rows db ∷ []
only_named rows db env up has =
    let row = row_named rows db has in
    let same : database_in rows row.0 ≡ database_numbered rows db =
    same_Some (database_in rows row.0) (database_numbered rows db)
    (sym (database_of-store_of rows db env ∙ ap (option_map (database_in rows)) row.1) ∙ database_of-numbered rows db env has) in
    filter-map (database_in rows) (λ d. is_same_bytes d.name db) (λ r. is_eq (name_cmp r.0 (plain_name db))) (rows 0)
    (all_weaker (λ (r : Row). r.0.dup ≡ []) (λ r. is_same_bytes r.0.key db ≡ is_eq (name_cmp r.0 (plain_name db)))
    (λ r e. ap is_eq (sym (name_cmp-plain r.0 db e))) (rows 0) (catalog_plain (rows 0) (environment_parts rows env).catalog))
    ∙ ap (map (database_in rows)) (one_found (plain_name db) (rows 0) row.0 up row.1)
    ∙ ap (λ (d : Database). d ∷ []) same

-- one less
sum_without : (f : Database → ℕ) (rows : Rows) (db : List ℕ) → is_environment rows ≡ true → IsRising (rows 0) → number_named rows db ≢ 0 →
    sum_by f (databases_without db (store_of rows).databases) + f (database_numbered rows db) ≡ sum_by f (store_of rows).databases
sum_without f rows db env up has =
    let parts = parted f (λ d. is_same_bytes d.name db) (store_of rows).databases in
    let only = ap (sum_by f) (only_named rows db env up has) in
    let one = sum_by-cons f (database_numbered rows db) [] in
    let none : sum_by f [] ≡ 0 = refl in
    omega (arith, parts, only, one, none)

-- the sum over others that each count as much
sum_mapped : (f : Database → ℕ) (g : Database → Database) (ds : List Database) → ((d : Database) → f (g d) ≡ f d) → sum_by f (map g ds) ≡ sum_by f ds
sum_mapped f g [] each = refl
sum_mapped f g (d ∷ ds) each =
    let one = each d in
    let rest = sum_mapped f g ds each in
    let first = sum_by-cons f (g d) (map g ds) in
    let second = sum_by-cons f d ds in
    omega (arith, one, rest, first, second)

-- one under another name
sum_renamed : (f : Database → ℕ) (rows : Rows) (db to : List ℕ) → is_environment rows ≡ true → IsRising (rows 0) → number_named rows db ≢ 0 → number_named rows to ≡ 0 →
    f (with_name (database_numbered rows db) to) ≡ f (database_numbered rows db) → ((d : Database) → f (with_primary db to d) ≡ f d) →
    sum_by f (databases_renamed (database_of db (store_of rows)) to (store_of rows).databases) ≡ sum_by f (store_of rows).databases
sum_renamed f rows db to env up has free same each =
    let ds : List Database = (store_of rows).databases in
    let renamed = ap (λ (o : Option Database). sum_by f (databases_renamed o to ds)) (database_of-numbered rows db env has) in
    let differ : AllByRecursion (λ (d : Database). is_same_bytes d.name to ≡ false) (databases_without db ds) =
    all_kept (λ (d : Database). is_same_bytes d.name to ≡ false) (λ d. not (is_same_bytes d.name db)) ds
    (none_found (λ (d : Database). is_same_bytes d.name to) ds (database_of-absent rows to env free)) in
    let more = sum_with f (with_name (database_numbered rows db) to) (databases_without db ds) differ in
    let less = sum_without f rows db env up has in
    renamed ∙ sum_mapped f (with_primary db to) (databases_with (with_name (database_numbered rows db) to) (databases_without db ds)) each ∙ omega (arith, more, less, same)

-- ---- totals

abbrev records_of : Database → ℕ
records_of d = length d.pairs

abbrev one_each : Database → ℕ
one_each d = 1

ones : (ds : List Database) → sum_by one_each ds ≡ length ds
ones [] = refl
ones (d ∷ ds) = let rest = ones ds in let all = sum_by-cons one_each d ds in omega (arith, rest, all)

-- an emptied database has no records
sum_emptied : (db : List ℕ) (ds : List Database) → sum_by records_of (in_database db (λ d. with_pairs d []) ds) ≡ sum_by records_of (databases_without db ds)
sum_emptied db [] = refl
sum_emptied db (d ∷ ds) = by_test (is_same_bytes d.name db) (sum_emptied db ds)
  where
    by_test : (b : Bool) → sum_by records_of (in_database db (λ x. with_pairs x []) ds) ≡ sum_by records_of (databases_without db ds) →
        sum_by records_of (cond b (with_pairs d []) d ∷ in_database db (λ x. with_pairs x []) ds)
        ≡ sum_by records_of (cond (not b) (d ∷ databases_without db ds) (databases_without db ds))
    by_test true rest = let one = sum_by-cons records_of (with_pairs d []) (in_database db (λ x. with_pairs x []) ds) in omega (arith, rest, one)
    by_test false rest =
        let one = sum_by-cons records_of d (in_database db (λ x. with_pairs x []) ds) in
        let two = sum_by-cons records_of d (databases_without db ds) in
        omega (arith, rest, one, two)

records_numbered : (rows : Rows) (db : List ℕ) → records_of (database_numbered rows db) ≡ length (rows (number_named rows db))
records_numbered rows db = length-map (rows (number_named rows db)) (pair_of (kind_named rows db))

less_is : (a b c : ℕ) → a + b ≡ c → c - b ≡ a
less_is a b c h = omega (arith, h)

abbrev make_totals : ℕ → ℕ → Totals
make_totals databases records = record { databases = databases; records = records }

-- how much the store holds with a new database
made_totals : (rows : Rows) (db : List ℕ) (new : Database) → is_environment rows ≡ true → new.name ≡ db → new.pairs ≡ [] → number_named rows db ≡ 0 →
    make_totals (length (store_of rows).databases + 1) (record_count (store_of rows)) ≡ totals_of (record { databases = databases_with new (store_of rows).databases })
made_totals rows db new env name_is none free =
    let ds : List Database = (store_of rows).databases in
    let differ = subst (λ (n : List ℕ). AllByRecursion (λ (d : Database). is_same_bytes d.name n ≡ false) ds) (sym name_is)
    (none_found (λ (d : Database). is_same_bytes d.name db) ds (database_of-absent rows db env free)) in
    let more = sum_with one_each new ds differ in
    let before = ones ds in
    let after = ones (databases_with new ds) in
    let records = sum_with records_of new ds differ in
    let empty = ap (λ (l : List Pair). length l) none in
    ap₂ make_totals (omega (arith, more, before, after)) (omega (arith, records, empty))

-- how much the store holds after a change of the catalog
pub catalog_totals : (rows : Rows) (change : Change) → is_environment rows ≡ true → IsRising (rows 0) → CanChange rows change →
    totals_by (totals_of (store_of rows)) rows change ≡ totals_of (changed change (store_of rows))
catalog_totals rows (Set db at value) env up can = absurd can
catalog_totals rows (Unset db at) env up can = absurd can
catalog_totals rows (Make db kind) env up can = made_totals rows db (new_database db kind None) env refl refl can.0
catalog_totals rows (MakeIndex db index) env up can = made_totals rows db (new_database db Dup (Some index)) env refl refl can.0
catalog_totals rows (Remove db) env up can =
    let ds : List Database = (store_of rows).databases in
    let less = sum_without one_each rows db env up can.0 in
    let before = ones ds in
    let after = ones (databases_without db ds) in
    let records = sum_without records_of rows db env up can.0 in
    let count = records_numbered rows db in
    ap₂ make_totals
    (less_is (length (databases_without db ds)) 1 (length ds) (omega (arith, less, before, after)))
    (less_is (sum_by records_of (databases_without db ds)) (length (rows (number_named rows db))) (sum_by records_of ds) (omega (arith, records, count)))
catalog_totals rows (Rename db to) env up can =
    let ds : List Database = (store_of rows).databases in
    let same = sum_renamed one_each rows db to env up can.0 can.1 refl (λ d. refl) in
    let before = ones ds in
    let after = ones (databases_renamed (database_of db (store_of rows)) to ds) in
    let records = sum_renamed records_of rows db to env up can.0 can.1 refl (λ d. refl) in
    ap₂ make_totals (omega (arith, same, before, after)) (sym records)
catalog_totals rows (Empty db) env up can =
    let ds : List Database = (store_of rows).databases in
    let emptied = sum_emptied db ds in
    let records = sum_without records_of rows db env up can.0 in
    let count = records_numbered rows db in
    ap₂ make_totals
    (sym (length-map ds (λ (d : Database). cond (is_same_bytes d.name db) (with_pairs d []) d)))
    (less_is (sum_by records_of (in_database db (λ d. with_pairs d []) ds)) (length (rows (number_named rows db))) (sum_by records_of ds) (omega (arith, emptied, records, count)))

-- ---- what is planned

-- what the catalog says is what the model says
outcome_known : (known : Known) (p : Alone) (session : ℕ) (call : Call) → CanPlan known → HasModel known p → is_catalog_call call ≡ true →
    outcome_alone p session call ≡ outcome_of call (store_of known.rows)
outcome_known known p session call can has is =
    outcome_catalog p session call is has.below ∙ ap (outcome_of call) (sym has.store)

-- of a database's records and the catalog's that are logged for a change at most one is new: a renamed database had its record
pub catalog_few : (makes : Option ℕ) (number : ℕ) (rows : Rows) (change : Change) → HaveFewNew rows (map (catalog_planned makes) (logged_as (record_named rows) number change))
catalog_few makes number rows (Set db at value) = tt
catalog_few makes number rows (Unset db at) = tt
catalog_few makes number rows (Make db kind) = (tt, tt)
catalog_few makes number rows (MakeIndex db index) = by_record (record_named rows index.primary)
  where
    by_record : (o : Option DbRecord) → HaveFewNew rows (map (catalog_planned makes) (indexed db number index.extract o))
    by_record None = tt
    by_record (Some r) = (tt, tt)
catalog_few makes number rows (Remove db) = (tt, tt)
catalog_few makes number rows (Rename db to) = by_record (data_at (plain_name db) (rows 0)) refl (record_named rows db) refl
  where
    by_record : (data_ : Option (List ℕ)) → data_at (plain_name db) (rows 0) ≡ data_ → (o : Option DbRecord) → record_in data_ ≡ o → HaveFewNew rows (map (catalog_planned makes) (moved db to o))
    by_record d is None found = tt
    by_record None is (Some r) found = absurd (none-some r found)
    by_record (Some bytes) is (Some r) found = ((λ same. inl (ap is_some is), tt), (tt, tt))
catalog_few makes number rows (Empty db) = by_record (record_named rows db)
  where
    by_record : (o : Option DbRecord) → HaveFewNew rows (map (catalog_planned makes) (renewed db number o))
    by_record None = tt
    by_record (Some r) = (tt, tt)

catalog_logged : (known : Known) (p : Alone) (session : ℕ) (call : Call) (planned : PlannedChanges) (change : Change) → CanPlan known → HasModel known p →
    (outcome_alone p session call).changes ≡ change ∷ [] → CanChange known.rows change → LogsCatalog known change planned → IsPlannedLog known p session call planned
catalog_logged known p session call planned change can has is may log =
    let rows : Rows = known.rows in
    record {
      change = change;
      more = [];
      changes = is;
      rows = λ txn. ap (map (row_by txn)) log.rows ∙ catalog_rows log.makes txn known.last_db rows change may;
      entries = λ txn low. subst (λ (l : List TreeChange). AllByRecursion (CanBeEncoded txn) l) (sym log.rows)
          (catalog_entries log.makes txn known.last_db rows change can.environment may log.named low);
      may = λ low. (catalog_may rows known.last_db change may log.named log.fits (subst (λ n. n < 2 ^ 32) log.last_db low), tt);
      last_db = log.last_db;
      totals = log.totals ∙ ap (λ (t : Totals). totals_by t rows change) can.totals ∙ catalog_totals rows change can.environment (can.rising 0) may
          ∙ ap (λ (s : Store). totals_of (changed change s)) has.store;
      there = λ other. subst (λ (l : List TreeChange). AllByRecursion (λ (c : TreeChange). has_number (numbers_of rows) c.db ≡ true) l) (sym log.rows)
          (all_in_catalog (numbers_of rows) log.makes (logged_as (record_named rows) (known.last_db + 1) change));
      made = λ low d. ap (is_made d) log.rows
          ∙ catalog_made log.makes known.last_db rows change may (log.is_next (subst (λ n. n < 2 ^ 32) log.last_db low)) d
          ∙ ap (λ (n : ℕ). nat_lt known.last_db n && (d == n)) (sym log.last_db);
      gone_is = log.gone;
      few = λ other. subst (HaveFewNew rows) (sym log.rows) (catalog_few log.makes (known.last_db + 1) rows change);
    }

-- a call on the catalog makes no index
pub other_call : (call : Call) → is_catalog_call call ≡ true → IsOtherCall call
other_call Lists is = tt
other_call (Create db kind) is = tt
other_call (Removes db) is = tt
other_call (Renames db to) is = tt
other_call (Truncate db) is = tt
other_call (CreateIndex db index) is = absurd (false≢true is)
other_call call is = absurd (false≢true is)

-- a call on the catalog comes to what the model says
pub catalog_is_planned : (known : Known) (p : Alone) (session : ℕ) (call : Call) (planned : Planned) → CanPlan known → HasModel known p → is_catalog_call call ≡ true →
    IsCatalogPlan known (outcome_of call (store_of known.rows)) planned → IsPlanned known p session call planned
unfolding catalog_logged
catalog_is_planned known p session call (Answered answer) can has is h =
    outcome_known known p session call can has is ∙ only_answers (outcome_of call (store_of known.rows)) answer h.0 h.1
catalog_is_planned known p session call (Logs planned) can has is h =
    let one = catalog_changes known.rows call h.0 h.1 can.environment (can.rising 0) is h.2 in
    let changes : (outcome_alone p session call).changes ≡ h.0 ∷ [] =
    ap (λ (o : Outcome). o.changes) (outcome_known known p session call can has is) ∙ h.2 ∙ ap (λ (m : List Change). h.0 ∷ m) one.0 in
    (catalog_logged known p session call planned h.0 can has changes one.1 h.3, first_is_no_index p session call h.0 [] (other_call call is) changes)
catalog_is_planned known p session call (Fills planned) can has is h = absurd h

-- the calls that are planned by the catalog
pub catalog_call : (call : Call) →
    (call ≡ Lists) ⊎ (((db : List ℕ) × (kind : Kind) × (call ≡ Create db kind)) ⊎ (((db : List ℕ) × (call ≡ Removes db))
    ⊎ (((db : List ℕ) × (to : List ℕ) × (call ≡ Renames db to)) ⊎ ((db : List ℕ) × (call ≡ Truncate db))))) → is_catalog_call call ≡ true
catalog_call call h =
    ⊎_elim (λ e. ap is_catalog_call e)
    (⊎_elim (λ (e : (db : List ℕ) × (kind : Kind) × (call ≡ Create db kind)). ap is_catalog_call e.2)
    (⊎_elim (λ (e : (db : List ℕ) × (call ≡ Removes db)). ap is_catalog_call e.1)
    (⊎_elim (λ (e : (db : List ℕ) × (to : List ℕ) × (call ≡ Renames db to)). ap is_catalog_call e.2)
    (λ (e : (db : List ℕ) × (call ≡ Truncate db)). ap is_catalog_call e.1)))) h

-- where memory was there for it
pub catalog_planned_ok : {E : Type 0} (known : Known) (p : Alone) (session : ℕ) (call : Call) (r : Result Planned E) → CanPlan known → HasModel known p → is_catalog_call call ≡ true →
    IfOk r (IsCatalogPlan known (outcome_of call (store_of known.rows))) → IfOk r (IsPlanned known p session call)
catalog_planned_ok known p session call r can has is h = if_ok r (λ planned. catalog_is_planned known p session call planned can has is) h
