-- A plan that makes an index and fills it is what the model says.
use Rattle.std.proofs.Common.{◌≡◌, ℕ, ◌+◌, ◌<◌, ◌^◌, List, [], ◌∷◌, ◌++◌, Bool, true, false, ◌&&◌, ◌==◌, nat_lt, Option, None, Some, map, take, length, is_some, is_none, refl, ap, ap₂, sym, ◌∙◌, subst, Result, IfOk}
use Rattle.std.specs.List.{AllByRecursion}
use Rattle.std.proofs.lemmas.Bool.{true≢false, false≢true, lt-ltb}
use Rattle.std.proofs.lemmas.Option.{same_Some}
use Rattle.je_order.proofs.Results.{if_ok}
use Rattle.je_order.specs.Order.{is_same_bytes}
use Rattle.record_tree.specs.Logged.{is_made}
use Rattle.record_tree.specs.declared.tree_change.TreeChange.{TreeChange}
use Rattle.store_model.specs.declared.store.TheConstants.{LAST_TXN, MOST_DATABASES}
use Rattle.store_model.specs.declared.store.Store.{Store}
use Rattle.store_model.specs.declared.store.Database.{Database}
use Rattle.store_model.specs.declared.kind.Kind.{Kind}
use Rattle.store_model.specs.declared.kind.Kind.TheVariants.{Plain, Dup}
use Rattle.store_model.specs.declared.totals.Totals.{Totals}
use Rattle.store_model.specs.declared.call.Call.TheVariants.{CreateIndex}
use Rattle.store_model.specs.declared.change.Change.{Change}
use Rattle.store_model.specs.declared.change.Change.TheVariants.{MakeIndex}
use Rattle.store_model.specs.declared.answer.Answer.{Answer}
use Rattle.store_model.specs.declared.index.Index.{Index}
use Rattle.store_model.specs.Store.{Pair, HasRisingNames, database_of, all_changed}
use Rattle.store_model.specs.Indexes.{index_pairs}
use Rattle.store_model.specs.Evaluation.{Outcome, evaluation, indexing}
use Rattle.store_model.specs.Refusals.{or_refusal, creation_refusal, access_refusal, is_primary, is_plain, made_by}
use Rattle.store_model.proofs.IndexLaws.{index_rises}
use Rattle.db_catalog.specs.declared.db_record.DbRecord.{DbRecord}
use Rattle.db_catalog.specs.declared.db_kind.DbKind.{DbKind}
use Rattle.db_catalog.specs.declared.db_kind.DbKind.TheVariants.{Plain as PlainRecord}
use Rattle.db_catalog.specs.declared.catalog_change.CatalogChange.TheVariants.{Put as PutRecord}
use Rattle.db_catalog.specs.Catalog.{IsKind}
use Rattle.db_catalog.specs.Planning.{outcome_unless, outcome_of, is_plain_record, is_primary_record, index_in_catalog, database_in_catalog, indexed, logged_as, IsRecordOf}
use Rattle.je_answers.specs.Alone.{Alone}
use Rattle.log_replay.specs.Rows.{Rows, are_right, is_environment, IsRising, pair_of, store_of, kind_or_plain, number_or_0}
use Rattle.log_replay.specs.Logging.{record_named, number_named}
use Rattle.log_replay.proofs.ListLaws.{all_append, none_found}
use Rattle.log_replay.proofs.PlanViews.{catalog_of, rising_pairs}
use Rattle.log_replay.proofs.StoreLaws.{environment_parts, row_named, named-right, database_of-numbered, database_of-absent, length-databases}
use Rattle.log_replay.proofs.LoggedLaws.{primary_record, same_bytes}
use Rattle.txn_core.specs.Known.{Known}
use Rattle.txn_core.specs.declared.planned.Planned.{Planned}
use Rattle.txn_core.specs.declared.planned.Planned.TheVariants.{Answered, Logs, Fills}
use Rattle.txn_core.specs.declared.planned_changes.PlannedChanges.{PlannedChanges}
use Rattle.txn_core.specs.Totals.{totals_of}
use Rattle.txn_core.specs.Planning.{outcome_alone, row_by, CanPlan, HasModel, IsPlannedLog, IsPlannedFill, IsPlanned}
use Rattle.txn_core.specs.Plans.{catalog_planned, totals_by, LogsCatalog}
use Rattle.txn_core.specs.Fills.{pair_planned, records_at, totals_with, FillsWith, IsIndexPlan}
use Rattle.txn_core.proofs.FilledLaws.{puts_in, filled_totals}
use Rattle.txn_core.proofs.FilledRows.{record_made, IsMade, filled_rows, filled_may, pairs_encoded, number_width, puts_make_none, pairs_make_none, first_made, pairs_of_it}
use Rattle.txn_core.proofs.CatalogPlanLaws.{counted, refused_first, creation_free, number_free, number_there, no_change, first_or, only_answers, database_numbered, CanBeEncoded, CanChange, catalog_may, catalog_entries, catalog_made, catalog_totals}

-- ---- the outcome

-- where a number is left for its transaction, it comes to what the catalog says
pub outcome_index : (p : Alone) (session : ℕ) (db : List ℕ) (index : Index) → p.last_txn < LAST_TXN →
    outcome_alone p session (CreateIndex db index) ≡ outcome_of (CreateIndex db index) p.store
outcome_index p session db index h =
    let refusal : Option Answer = creation_refusal (is_some (database_of db p.store)) (length p.store.databases) in
    let there : Option Answer = access_refusal (is_primary (database_of index.primary p.store)) in
    ap (counted (or_refusal there (or_refusal refusal None)) (evaluation (CreateIndex db index) p.store)) (lt-ltb p.last_txn LAST_TXN h)
    ∙ ap (λ (r : Option Answer). outcome_unless (or_refusal there r) (evaluation (CreateIndex db index) p.store)) (refused_first refusal)

-- an index is made: its primary is there, and its name is free
pub record IsIndexMade (rows : Rows) (db : List ℕ) (index : Index) (change : Change) : Type 0 where
  pub primary : Database
  pub there : database_of index.primary (store_of rows) ≡ Some primary
  pub plain : is_primary (Some primary) ≡ true
  pub free : creation_refusal (is_some (database_of db (store_of rows))) (length (store_of rows).databases) ≡ None
  pub is : change ≡ MakeIndex db index
  pub changes : (outcome_of (CreateIndex db index) (store_of rows)).changes ≡ MakeIndex db index ∷ puts_in db (index_pairs index.extract primary.pairs)

pub index_made : (rows : Rows) (db : List ℕ) (index : Index) (change : Change) (more : List Change) → take 1 (outcome_of (CreateIndex db index) (store_of rows)).changes ≡ change ∷ more →
    IsIndexMade rows db index change
index_made rows db index change more h = by_primary (database_of index.primary (store_of rows)) refl h
  where
    taken : Option Answer
    taken = creation_refusal (is_some (database_of db (store_of rows))) (length (store_of rows).databases)

    by_primary : (o : Option Database) → database_of index.primary (store_of rows) ≡ o →
        take 1 (outcome_unless (or_refusal (access_refusal (is_primary o)) taken) (indexing db index o)).changes ≡ change ∷ more → IsIndexMade rows db index change
    by_primary None e k = absurd (no_change change more k)
    by_primary (Some d) e k = by_plain (is_primary (Some d)) refl k
      where
        by_plain : (b : Bool) → is_primary (Some d) ≡ b → take 1 (outcome_unless (or_refusal (access_refusal b) taken) (indexing db index (Some d))).changes ≡ change ∷ more →
            IsIndexMade rows db index change
        by_plain false f j = absurd (no_change change more j)
        by_plain true f j = by_taken taken refl j
          where
            by_taken : (r : Option Answer) → taken ≡ r → take 1 (outcome_unless r (indexing db index (Some d))).changes ≡ change ∷ more → IsIndexMade rows db index change
            by_taken (Some refusal) g i = absurd (no_change change more i)
            by_taken None g i = record {
              primary = d;
              there = e;
              plain = f;
              free = g;
              is = sym (ap (first_or (MakeIndex db index)) i);
              changes = ap (λ (o : Option Database). (outcome_unless (or_refusal (access_refusal (is_primary o)) taken) (indexing db index o)).changes) e
                  ∙ ap (λ (b : Bool). (outcome_unless (or_refusal (access_refusal b) taken) (indexing db index (Some d))).changes) f
                  ∙ ap (λ (r : Option Answer). (outcome_unless r (indexing db index (Some d))).changes) g;
            }

-- ---- the primary

-- the record of a plain database that is no index
plain_as : (record_of : List ℕ → Option DbRecord) (kind : Kind) (o : Option Index) → (is_plain kind && is_none o) ≡ true → is_plain_record (database_in_catalog record_of kind o) ≡ true
plain_as record_of Plain None h = refl
plain_as record_of Plain (Some index) h = absurd (false≢true h)
plain_as record_of Dup o h = absurd (false≢true h)

primary_recorded : (rows : Rows) (db : List ℕ) (index : Index) (change : Change) → is_environment rows ≡ true → IsRising (rows 0) → IsIndexMade rows db index change →
    is_primary_record (record_named rows index.primary) ≡ true
primary_recorded rows db index change env up made =
    let known = subst (λ (o : Option Database). IsRecordOf (record_named rows) o (record_named rows index.primary)) made.there (catalog_of rows env up index.primary) in
    ap is_primary_record known.2 ∙ plain_as (record_named rows) made.primary.kind made.primary.index made.plain

-- it can be made
pub index_can : (rows : Rows) (db : List ℕ) (index : Index) (change : Change) → is_environment rows ≡ true → IsRising (rows 0) → IsIndexMade rows db index change → CanChange rows (MakeIndex db index)
index_can rows db index change env up made =
    let free = creation_free (is_some (database_of db (store_of rows))) (length (store_of rows).databases) made.free in
    (number_free rows db env free.0, subst (λ n. n < MOST_DATABASES) (length-databases rows) free.1, primary_recorded rows db index change env up made)

plain_kind : (o : Option DbRecord) → is_primary_record o ≡ true → kind_or_plain o ≡ Plain
plain_kind None h = refl
plain_kind (Some r) h = by_kind r.kind h
  where
    by_kind : (kind : DbKind) → is_plain_record kind ≡ true → kind_or_plain (Some (record { number = r.number; kind = kind })) ≡ Plain
    by_kind PlainRecord k = refl
    by_kind kind k = absurd (false≢true k)

-- its records are those under its number
pub primary_pairs : (rows : Rows) (db : List ℕ) (index : Index) (change : Change) → is_environment rows ≡ true → IsRising (rows 0) → (made : IsIndexMade rows db index change) →
    made.primary.pairs ≡ records_at rows (number_named rows index.primary)
primary_pairs rows db index change env up made =
    let has = number_there rows index.primary env (ap is_some made.there) in
    ap (λ (d : Database). d.pairs) (same_Some made.primary (database_numbered rows index.primary) (sym made.there ∙ database_of-numbered rows index.primary env has))
    ∙ ap (λ (k : Kind). map (pair_of k) (rows (number_named rows index.primary))) (plain_kind (record_named rows index.primary) (primary_recorded rows db index change env up made))

-- ---- what is planned

-- its primary's records rise by their names
primary_rises : (rows : Rows) (db : List ℕ) (index : Index) (change : Change) → is_environment rows ≡ true → ((n : ℕ) → IsRising (rows n)) → IsIndexMade rows db index change →
    HasRisingNames Plain (records_at rows (number_named rows index.primary))
primary_rises rows db index change env up made =
    let has = number_there rows index.primary env (ap is_some made.there) in
    let row = row_named rows index.primary has in
    let kind = row.3 ∙ plain_kind (record_named rows index.primary) (primary_recorded rows db index change env (up 0) made) in
    let right = named-right rows index.primary row.0 (environment_parts rows env) row.1 in
    rising_pairs Plain (rows (number_named rows index.primary))
    (ap₂ (λ (k : Kind) (n : ℕ). are_right k (rows n)) (sym kind) (sym row.2) ∙ right) (up (number_named rows index.primary))

module _ (known : Known) (p : Alone) (session : ℕ) (db : List ℕ) (index : Index) (can : CanPlan known) (has : HasModel known p) (width : known.last_db < 2 ^ 32) (made : PlannedChanges) (planned : PlannedChanges)
    (change : Change) (is_made_ : IsIndexMade known.rows db index change) (log : LogsCatalog known (MakeIndex db index) made)
    (filled : FillsWith made known.last_db index.extract (records_at known.rows (number_named known.rows index.primary)) planned) where
  abbrev rows : Rows
  rows = known.rows

  may : CanChange rows (MakeIndex db index)
  may = index_can rows db index change can.environment (can.rising 0) is_made_

  pairs_are : filled.ps ≡ index_pairs index.extract is_made_.primary.pairs
  pairs_are =
      filled.are (primary_rises rows db index change can.environment can.rising is_made_)
      ∙ ap (index_pairs index.extract) (sym (primary_pairs rows db index change can.environment (can.rising 0) is_made_))

  rise : HasRisingNames Dup filled.ps
  rise = subst (HasRisingNames Dup) (sym pairs_are) (index_rises index.extract is_made_.primary.pairs)

  known_made : IsMade rows known.last_db filled.number index
  known_made =
      let r = primary_record (record_named rows index.primary) may.2 in
      record { width = width; next = filled.is_next; r = r.0; named = r.1; kind = subst (λ (n : ℕ). IsKind (index_in_catalog n index.extract)) (ap number_or_0 r.1) log.fits }

  items : planned.changes.items ≡ map (catalog_planned log.makes) (logged_as (record_named rows) (known.last_db + 1) (MakeIndex db index)) ++ map (pair_planned filled.number) filled.ps
  items = filled.changes ∙ ap (λ (l : List TreeChange). l ++ map (pair_planned filled.number) filled.ps) log.rows

  none_more : made_by (MakeIndex db index ∷ puts_in db filled.ps) ≡ made_by (MakeIndex db index ∷ [])
  none_more = ap (λ (n : ℕ). n + 1) (puts_make_none db filled.ps)

  last : planned.last_db ≡ known.last_db + 1
  last = filled.last_db ∙ log.last_db

  is_low : planned.last_db < 2 ^ 32 → known.last_db + 1 < 2 ^ 32
  is_low low = subst (λ n. n < 2 ^ 32) last low

  changes_are : (outcome_alone p session (CreateIndex db index)).changes ≡ MakeIndex db index ∷ puts_in db filled.ps
  changes_are =
      ap (λ (o : Outcome). o.changes) (outcome_index p session db index has.below ∙ ap (outcome_of (CreateIndex db index)) (sym has.store))
      ∙ is_made_.changes ∙ ap (λ (l : List Pair). MakeIndex db index ∷ puts_in db l) (sym pairs_are)

  totals_are : planned.totals ≡ totals_of (all_changed (MakeIndex db index ∷ puts_in db filled.ps) p.store)
  totals_are =
      filled.totals
      ∙ ap (λ (t : Totals). totals_with t (length filled.ps))
      (log.totals ∙ ap (λ (t : Totals). totals_by t rows (MakeIndex db index)) can.totals ∙ catalog_totals rows (MakeIndex db index) can.environment (can.rising 0) may)
      ∙ filled_totals db index (store_of rows) filled.ps (same_bytes db) (none_found (λ (d : Database). is_same_bytes d.name db) (store_of rows).databases (database_of-absent rows db can.environment may.0)) rise
      ∙ ap (λ (s : Store). totals_of (all_changed (MakeIndex db index ∷ puts_in db filled.ps) s)) has.store

  index_logged : IsPlannedLog known p session (CreateIndex db index) planned
  index_logged = record {
    change = MakeIndex db index;
    more = puts_in db filled.ps;
    changes = changes_are;
    rows = λ txn. ap (map (row_by txn)) items ∙ filled_rows txn known.last_db filled.number db index rows log.makes filled.ps may known_made;
    entries = λ txn low. subst (AllByRecursion (CanBeEncoded txn)) (sym items)
        (all_append (CanBeEncoded txn) (map (catalog_planned log.makes) (logged_as (record_named rows) (known.last_db + 1) (MakeIndex db index))) (map (pair_planned filled.number) filled.ps)
        (catalog_entries log.makes txn known.last_db rows (MakeIndex db index) can.environment may log.named low)
        (pairs_encoded txn filled.number filled.ps low (number_width known.last_db filled.number filled.is_next) filled.short));
    may = λ low. (
      catalog_may rows known.last_db (MakeIndex db index) may log.named log.fits (is_low low),
      filled_may known.last_db filled.number db index rows filled.ps known_made (is_low low) filled.short,
    );
    last_db = last ∙ ap (λ (n : ℕ). known.last_db + n) (sym none_more);
    totals = totals_are;
    there = λ other. absurd (true≢false other);
    made = λ low d. ap (is_made d) items
        ∙ first_made d (map (catalog_planned log.makes) (logged_as (record_named rows) (known.last_db + 1) (MakeIndex db index))) (map (pair_planned filled.number) filled.ps)
        (pairs_make_none d filled.number filled.ps)
        ∙ catalog_made log.makes known.last_db rows (MakeIndex db index) may (log.is_next (is_low low)) d
        ∙ ap (λ (n : ℕ). nat_lt known.last_db n && (d == n)) (sym last);
    gone_is = filled.gone ∙ log.gone;
    few = λ other. absurd (true≢false other);
  }

  abbrev first_record : TreeChange
  first_record = catalog_planned log.makes (PutRecord db (record_made known.last_db index known_made.r))

  index_filled : IsPlannedFill planned
  index_filled = record {
    first = first_record;
    rows = map (pair_planned filled.number) filled.ps;
    are = items ∙ ap (λ (o : Option DbRecord). map (catalog_planned log.makes) (indexed db (known.last_db + 1) index.extract o) ++ map (pair_planned filled.number) filled.ps) known_made.named;
    catalog = refl;
    makes = λ low. log.is_next (is_low low) ∙ ap (λ (n : ℕ). Some n) (sym last);
    of_it = λ low. pairs_of_it planned.last_db filled.number filled.ps (filled.is_next.next (is_low low) ∙ sym last);
  }

-- the making of an index comes to what the model says
pub index_is_planned : (known : Known) (p : Alone) (session : ℕ) (db : List ℕ) (index : Index) (planned : Planned) → CanPlan known → HasModel known p → known.last_db < 2 ^ 32 →
    IsIndexPlan known db index planned → IsPlanned known p session (CreateIndex db index) planned
unfolding index_logged
index_is_planned known p session db index (Answered answer) can has width h =
    outcome_index p session db index has.below ∙ ap (outcome_of (CreateIndex db index)) (sym has.store)
    ∙ only_answers (outcome_of (CreateIndex db index) (store_of known.rows)) answer h.0 (none_taken (outcome_of (CreateIndex db index) (store_of known.rows)).changes h.1)
  where
    none_taken : (l : List Change) → take 1 l ≡ [] → l ≡ []
    none_taken [] e = refl
    none_taken (c ∷ l) e = absurd (no_change c [] (sym e))
index_is_planned known p session db index (Logs planned) can has width h = absurd h
index_is_planned known p session db index (Fills planned) can has width h =
    let made = index_made known.rows db index h.0 h.1 h.2 in
    let log = subst (λ (c : Change). LogsCatalog known c h.3) made.is h.4 in (
      index_logged known p session db index can has width h.3 planned h.0 made log h.5,
      refl,
      index_filled known p session db index can has width h.3 planned h.0 made log h.5,
    )

-- where memory was there for it
pub index_planned_ok : {E : Type 0} (known : Known) (p : Alone) (session : ℕ) (db : List ℕ) (index : Index) (r : Result Planned E) → CanPlan known → HasModel known p → known.last_db < 2 ^ 32 →
    IfOk r (IsIndexPlan known db index) → IfOk r (IsPlanned known p session (CreateIndex db index))
index_planned_ok known p session db index r can has width h = if_ok r (λ planned. index_is_planned known p session db index planned can has width) h
