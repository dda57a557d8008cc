-- The log of an environment beside the model goes on by a change of the catalog.
use Rattle.std.proofs.Common.{◌≡◌, ℕ, ◌+◌, ◌≤◌, ◌==◌, Bool, true, false, cond, List, [], ◌∷◌, Option, map, refl, sym, ap, ap₂, subst, ◌∙◌}
use Rattle.std.specs.Prelude.{◌≢◌, ◌&&◌, ◌||◌}
use Rattle.std.specs.List.{AllByRecursion}
use Rattle.std.proofs.lemmas.Bool.{cond-false, eq-eqb, ne_eqb, true≢false}
use Rattle.std.proofs.lemmas.List.{append-nil}
use mathlib.Core.Path.{fun_ext}
use Rattle.std.specs.Ordering.{is_eq}
use Rattle.je_disk.specs.DiskMeaning.{DiskMeaning}
use Rattle.je_order.specs.Order.{name_cmp}
use Rattle.je_order.specs.declared.name.Name.{Name}
use Rattle.je_order.specs.declared.txn_id.TxnId.{TxnId}
use Rattle.je_order.proofs.Lists.{all_weaker}
use Rattle.db_catalog.specs.declared.catalog_change.CatalogChange.{CatalogChange}
use Rattle.db_catalog.specs.declared.catalog_change.CatalogChange.TheVariants.{Put as PutRecord, Delete as DeleteRecord}
use Rattle.db_catalog.specs.Planning.{logged_as}
use Rattle.store_model.specs.declared.change.Change.{Change}
use Rattle.store_model.specs.declared.change.Change.TheVariants.{Set, Unset, Make, MakeIndex, Remove, Rename, Empty}
use Rattle.store_model.specs.declared.kind.Kind.{Kind}
use Rattle.store_model.specs.Needs.{changed_name}
use Rattle.store_model.specs.Refusals.{made_by}
use Rattle.je_answers.specs.Standing.{Standing, all_numbered, numbered, with_at}
use Rattle.je_answers.specs.Views.{of_db}
use Rattle.log_file.specs.Log.{Log}
use Rattle.log_buffer.specs.declared.buffer.LogBuffer.{LogBuffer}
use Rattle.log_buffer.specs.Growth.{longer}
use Rattle.log_replay.specs.Rows.{RowChange, Rows, rows_changed}
use Rattle.log_replay.specs.Kept.{all_numbered as kept_all_numbered, numbered as kept_numbered}
use Rattle.log_replay.specs.Logging.{catalog_row_change, number_named, record_named, row_changes}
use Rattle.record_tree.specs.declared.tree_change.TreeChange.{TreeChange}
use Rattle.record_tree.specs.Logged.{LogsTransaction}
use Rattle.txn_core.specs.Planning.{row_by}
use Rattle.txn_core.specs.Transactions.{is_gone}
use Rattle.txn_log.specs.Own.{AreFreeNames, OwnChange, has_own}
use Rattle.txn_log.specs.AtStanding.{HasCommitted, IsLogAt}
use Rattle.txn_log.specs.Buffers.{HasAdded, MayCommit}
use Rattle.txn_log.specs.Committing.{IsElsewhere, MayBeCommitted}
use Rattle.txn_log.specs.Gives.{AreStillActive}
use Rattle.txn_log.specs.Growth.{HasOwn}
use Rattle.txn_log.specs.Leaves.{LeavesRecords}
use Rattle.txn_log.proofs.AtStandingLaws.{transaction_leaves_log}
use Rattle.txn_log.proofs.CommittingLaws.{own_above}
use Rattle.txn_log.proofs.StayingLaws.{may_stay_elsewhere}
use Rattle.engine.specs.Contents.{rows_after}
use Rattle.engine.proofs.PlannedRows.{ArePlanned, LeavesRows, planned_rows}
use Rattle.engine.proofs.TxnGives.{leaves_records}

-- ---- numbers

same_numbered : (change : Change) (last : ℕ) (numbers : List ℕ → ℕ) (name : List ℕ) → kept_numbered change last numbers name ≡ numbered change last numbers name
same_numbered (Set db at value) last numbers name = refl
same_numbered (Unset db at) last numbers name = refl
same_numbered (Make db kind) last numbers name = refl
same_numbered (MakeIndex db index) last numbers name = refl
same_numbered (Remove db) last numbers name = refl
same_numbered (Rename db to) last numbers name = refl
same_numbered (Empty db) last numbers name = refl

-- the numbers that changes give are the model's
pub numbers_alike : (changes : List Change) (last : ℕ) (a b : List ℕ → ℕ) → a ≡ b → kept_all_numbered changes last a ≡ all_numbered changes last b
numbers_alike [] last a b same = same
numbers_alike (change ∷ changes) last a b same =
    numbers_alike changes (last + made_by (change ∷ [])) (kept_numbered change last a) (numbered change last b)
    (fun_ext (same_numbered change last a) ∙ ap (numbered change last) same)

-- ---- changes of the catalog

-- a change of the catalog, and not of a record
abbrev pub IsOfCatalog : Change → Type 0
IsOfCatalog (Set db at value) = ⊥
IsOfCatalog (Unset db at) = ⊥
IsOfCatalog change = Unit {0}

catalog_only : (changes : List CatalogChange) → AllByRecursion (λ (r : RowChange). r.db ≡ 0) (map (catalog_row_change 0) changes)
catalog_only [] = tt
catalog_only (PutRecord db row ∷ changes) = (refl, catalog_only changes)
catalog_only (DeleteRecord db ∷ changes) = (refl, catalog_only changes)

in_catalog : (last_db : ℕ) (change : Change) (rows : Rows) → IsOfCatalog change → AllByRecursion (λ (r : RowChange). r.db ≡ 0) (row_changes 0 last_db change rows)
in_catalog last_db (Set db at value) rows is = absurd is
in_catalog last_db (Unset db at) rows is = absurd is
in_catalog last_db (Make db kind) rows is = catalog_only (logged_as (record_named rows) (last_db + 1) (Make db kind))
in_catalog last_db (MakeIndex db index) rows is = catalog_only (logged_as (record_named rows) (last_db + 1) (MakeIndex db index))
in_catalog last_db (Remove db) rows is = catalog_only (logged_as (record_named rows) (last_db + 1) (Remove db))
in_catalog last_db (Rename db to) rows is = catalog_only (logged_as (record_named rows) (last_db + 1) (Rename db to))
in_catalog last_db (Empty db) rows is = catalog_only (logged_as (record_named rows) (last_db + 1) (Empty db))

-- ---- a database that nobody uses

none_of_db : (number : ℕ) (own : List OwnChange) → of_db number own ≡ [] → AllByRecursion (λ (c : OwnChange). c.0 ≢ number) own
none_of_db number [] none = tt
none_of_db number (c ∷ own) none = by_test (c.0 == number) refl none (none_of_db number own)
  where
    by_test : (b : Bool) → (c.0 == number) ≡ b → cond b (c.1 ∷ of_db number own) (of_db number own) ≡ [] → (of_db number own ≡ [] → AllByRecursion (λ (e : OwnChange). e.0 ≢ number) own) →
        AllByRecursion (λ (e : OwnChange). e.0 ≢ number) (c ∷ own)
    by_test true is none_ rest = absurd cc
    by_test false is none_ rest = ((λ e. true≢false (sym (eq-eqb c.0 number e) ∙ is)), rest none_)

-- own changes none of which is in the database that a change of the catalog is of
pub elsewhere_remove : (rows : Rows) (db : List ℕ) (own : List OwnChange) → of_db (number_named rows db) own ≡ [] → AllByRecursion (λ (c : OwnChange). IsElsewhere rows (Remove db) c.0) own
elsewhere_remove rows db own none = all_weaker (λ (c : OwnChange). c.0 ≢ number_named rows db) (λ c. IsElsewhere rows (Remove db) c.0) (λ c other e. other (sym e)) own (none_of_db (number_named rows db) own none)

pub elsewhere_rename : (rows : Rows) (db to : List ℕ) (own : List OwnChange) → of_db (number_named rows db) own ≡ [] → AllByRecursion (λ (c : OwnChange). IsElsewhere rows (Rename db to) c.0) own
elsewhere_rename rows db to own none = all_weaker (λ (c : OwnChange). c.0 ≢ number_named rows db) (λ c. IsElsewhere rows (Rename db to) c.0) (λ c other e. other (sym e)) own (none_of_db (number_named rows db) own none)

pub elsewhere_empty : (rows : Rows) (db : List ℕ) (own : List OwnChange) → of_db (number_named rows db) own ≡ [] → AllByRecursion (λ (c : OwnChange). IsElsewhere rows (Empty db) c.0) own
elsewhere_empty rows db own none = all_weaker (λ (c : OwnChange). c.0 ≢ number_named rows db) (λ c. IsElsewhere rows (Empty db) c.0) (λ c other e. other (sym e)) own (none_of_db (number_named rows db) own none)

pub elsewhere_make : (rows : Rows) (db : List ℕ) (kind : Kind) (own : List OwnChange) → AllByRecursion (λ (c : OwnChange). IsElsewhere rows (Make db kind) c.0) own
elsewhere_make rows db kind [] = tt
elsewhere_make rows db kind (c ∷ own) = (tt, elsewhere_make rows db kind own)

-- ---- own changes that are of none of the databases that changes are of

abbrev pub AreApart : (ℕ → List OwnChange) → List TreeChange → Type 0
AreApart own planned = AllByRecursion (λ (p : TreeChange). (u : ℕ) → AllByRecursion (λ (c : OwnChange). c.0 ≢ p.db) (own u)) planned

pub catalog_apart : (rows : Rows) (own : ℕ → List OwnChange) (planned : List TreeChange) → ((u : ℕ) → AllByRecursion (MayBeCommitted rows) (own u)) → AllByRecursion (λ (p : TreeChange). p.db ≡ 0) planned → AreApart own planned
catalog_apart rows own planned may of_catalog =
    all_weaker (λ (p : TreeChange). p.db ≡ 0) (λ p. (u : ℕ) → AllByRecursion (λ (c : OwnChange). c.0 ≢ p.db) (own u))
    (λ p is u. all_weaker (MayBeCommitted rows) (λ c. c.0 ≢ p.db) (λ c can e. own_above rows c can (e ∙ is)) (own u) (may u)) planned of_catalog

none_own : (d : ℕ) (x : Name) (own : List OwnChange) → AllByRecursion (λ (c : OwnChange). c.0 ≢ d) own → has_own d x own ≡ false
none_own d x [] apart = refl
none_own d x (c ∷ own) apart = ap₂ (λ (a b : Bool). a || b) (ap (λ (b : Bool). b && is_eq (name_cmp (changed_name c.1) x)) (ne_eqb c.0 d apart.0)) (none_own d x own apart.1)

pub apart_free : (is_active : ℕ → Bool) (own : ℕ → List OwnChange) (t : ℕ) (planned : List TreeChange) → AreApart own planned → AreFreeNames is_active own t planned
apart_free is_active own t planned apart =
    all_weaker (λ (p : TreeChange). (u : ℕ) → AllByRecursion (λ (c : OwnChange). c.0 ≢ p.db) (own u)) (λ p. (u : ℕ) → is_active u ≡ true → u ≢ t → has_own p.db p.name (own u) ≡ false)
    (λ p is u active other. none_own p.db p.name (own u) (is u)) planned apart

module _ {D : Type 0} (meaning : DiskMeaning D) where
  -- changes the first of which is of the catalog, which has no other one, were logged with their Commit; nobody has own changes in the databases that
  -- they are of
  unfoldable pub changes_leave_log : (old new : LogBuffer D) (log : Log) (rows : Rows) (is_active still : ℕ → Bool) (st after : Standing) (t : TxnId) (change : Change) (more : List Change) (planned : List TreeChange) (dropped : Option ℕ) →
      IsLogAt meaning old log rows is_active st → ArePlanned rows st.last_db change more planned dropped → HasOwn st.last_txn is_active st.own t.0 [] →
      rows_after planned dropped rows 0 ≡ rows_changed (row_changes 0 st.last_db change rows) rows 0 → AreApart st.own planned →
      ((u : ℕ) → AllByRecursion (λ (c : OwnChange). IsElsewhere rows change c.0) (after.own u)) → ((u : ℕ) → AllByRecursion (MayBeCommitted rows) (after.own u)) →
      (a : HasAdded meaning old new (LogsTransaction t planned)) →
      HasCommitted st after (change ∷ more) → st.last_txn ≤ after.last_txn → AreStillActive st.last_txn is_active (with_at t.0 [] st.own) still after.own →
      IsLogAt meaning new (longer old a.entries log) (rows_after planned dropped rows) still after
  changes_leave_log old new log rows is_active still st after t change more planned dropped at are own catalog apart elsewhere may_own a has le active =
      let leaves : LeavesRows rows (rows_after planned dropped rows) st.last_db (change ∷ more) planned dropped = planned_rows rows st.last_db change more planned dropped are in
      let may : MayCommit st.last_txn is_active st.own rows (rows_after planned dropped rows) st.last_db after.last_db (λ d. is_gone d dropped) t [] planned = record {
        has = own;
        free = apart_free is_active st.own t.0 planned apart;
        leaves = subst (λ (n : ℕ). LeavesRecords rows (rows_after planned dropped rows) st.last_db n (λ d. is_gone d dropped) planned) (sym has.last_db)
            (leaves_records rows (rows_after planned dropped rows) st.last_db (change ∷ more) planned dropped leaves);
      } in
      transaction_leaves_log meaning old new log rows (rows_after planned dropped rows) is_active still st after (λ d. is_gone d dropped) t [] planned (change ∷ more) at may
      leaves.store
      (λ name. ap (λ (f : List ℕ → ℕ). f name) (leaves.numbers ∙ numbers_alike (change ∷ more) st.last_db (number_named rows) st.numbers (fun_ext at.makes.named)))
      (λ u. stay (after.own u) (elsewhere u) (may_own u)) a has le active
    where
      stay : (l : List OwnChange) → AllByRecursion (λ (c : OwnChange). IsElsewhere rows change c.0) l → AllByRecursion (MayBeCommitted rows) l → AllByRecursion (MayBeCommitted (rows_after planned dropped rows)) l
      stay [] other may = tt
      stay (c ∷ l) other may = (may_stay_elsewhere rows (rows_after planned dropped rows) st.last_db change c are.may.0 catalog other.0 may.0, stay l other.1 may.1)

-- what a change of the catalog leaves of it
pub catalog_after : (rows : Rows) (last_db : ℕ) (change : Change) (planned : List TreeChange) (dropped : Option ℕ) → ArePlanned rows last_db change [] planned dropped →
    rows_after planned dropped rows 0 ≡ rows_changed (row_changes 0 last_db change rows) rows 0
catalog_after rows last_db change planned dropped are =
    let leaves : LeavesRows rows (rows_after planned dropped rows) last_db (change ∷ []) planned dropped = planned_rows rows last_db change [] planned dropped are in
    let logs : map (row_by 0) planned ≡ row_changes 0 last_db change rows = are.logs ∙ append-nil (row_changes 0 last_db change rows) in
    cond-false (is_gone 0 dropped) [] (rows_changed (map (row_by 0) planned) rows 0) leaves.zero_stays ∙ ap (λ (cs : List RowChange). rows_changed cs rows 0) logs
