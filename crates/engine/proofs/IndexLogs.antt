-- An index is made and filled: of which databases its changes are.
use Rattle.std.proofs.Common.{◌≡◌, ◌∙◌, ◌<◌, ◌≤◌, ◌^◌, ℕ, true, true≢false, List, [], ◌∷◌, ◌++◌, None, map, refl, ap, sym, subst, arith}
use Rattle.std.specs.Prelude.{◌≢◌}
use Rattle.std.specs.List.{AllByRecursion}
use Rattle.std.proofs.lemmas.Bool.{cond-false}
use Rattle.je_order.proofs.Lists.{all_weaker}
use Rattle.store_model.specs.declared.change.Change.{Change}
use Rattle.store_model.specs.declared.change.Change.TheVariants.{Set, Unset, Make, MakeIndex, Remove, Rename, Empty}
use Rattle.store_model.specs.Refusals.{made_by}
use Rattle.log_replay.specs.Kept.{MayBeLogged}
use Rattle.log_replay.specs.Logging.{all_row_changes, last_db_after, record_named, row_changes}
use Rattle.log_replay.specs.Rows.{RowChange, Rows, row_changed, rows_changed}
use Rattle.log_replay.proofs.LoggedLaws.{IsSound, index-is, number-within, primary_record}
use Rattle.log_replay.proofs.StoreLaws.{row_changed-there}
use Rattle.record_tree.specs.declared.tree_change.TreeChange.{TreeChange}
use Rattle.txn_core.specs.declared.planned_changes.PlannedChanges.{PlannedChanges}
use Rattle.txn_core.specs.Planning.{IsPlannedFill, is_index, row_by}
use Rattle.txn_core.specs.Transactions.{is_gone}
use Rattle.txn_log.specs.Own.{OwnChange}
use Rattle.txn_log.specs.Committing.{MayBeCommitted}
use Rattle.txn_log.proofs.CommittingLaws.{own_above}
use Rattle.engine.specs.Contents.{rows_after}
use Rattle.engine.proofs.CatalogLogs.{AreApart}
use Rattle.engine.proofs.PlannedRows.{ArePlanned, LeavesRows, planned_rows}

-- ---- what is left of the catalog

changed_elsewhere : (cs : List RowChange) (rows : Rows) → AllByRecursion (λ (c : RowChange). c.db ≢ 0) cs → rows_changed cs rows 0 ≡ rows 0
changed_elsewhere [] rows apart = refl
changed_elsewhere (c ∷ cs) rows apart = changed_elsewhere cs (row_changed c rows) apart.1 ∙ row_changed-there c rows 0 (λ e. apart.0 (sym e))

filled_elsewhere : (number : ℕ) (rows : List TreeChange) → 0 < number → AllByRecursion (λ (r : TreeChange). (r.db ≡ number) × (r.makes ≡ None)) rows → AllByRecursion (λ (c : RowChange). c.db ≢ 0) (map (row_by 0) rows)
filled_elsewhere number [] above of_it = tt
filled_elsewhere number (r ∷ rows) above of_it = ((λ e. let is = of_it.0.0 in absurd (omega (arith, e, is, above))), filled_elsewhere number rows above of_it.1)

first_of : (a b : RowChange) (xs ys : List RowChange) → a ∷ xs ≡ b ∷ ys → a ≡ b
first_of a b xs ys same = ap (λ (l : List RowChange). head_or l a) same
  where
    head_or : List RowChange → RowChange → RowChange
    head_or [] x = x
    head_or (c ∷ cs) x = c

-- an index has one change of the catalog
pub one_row : (rows : Rows) (last_db : ℕ) (change : Change) → is_index change ≡ true → MayBeLogged rows last_db change → (x : RowChange) × (row_changes 0 last_db change rows ≡ x ∷ [])
one_row rows last_db (MakeIndex db index) is may = let p = primary_record (record_named rows index.primary) may.4 in (_, index-is 0 last_db db index rows p.0 p.1)
one_row rows last_db (Set db at value) is may = absurd (true≢false (sym is))
one_row rows last_db (Unset db at) is may = absurd (true≢false (sym is))
one_row rows last_db (Make db kind) is may = absurd (true≢false (sym is))
one_row rows last_db (Remove db) is may = absurd (true≢false (sym is))
one_row rows last_db (Rename db to) is may = absurd (true≢false (sym is))
one_row rows last_db (Empty db) is may = absurd (true≢false (sym is))

pub fill_catalog : (rows : Rows) (last_db : ℕ) (change : Change) (more : List Change) (planned : PlannedChanges) → is_index change ≡ true → ArePlanned rows last_db change more planned.changes.items planned.gone →
    IsPlannedFill planned → 0 < planned.last_db → planned.last_db < 2 ^ 32 → rows_after planned.changes.items planned.gone rows 0 ≡ rows_changed (row_changes 0 last_db change rows) rows 0
fill_catalog rows last_db change more planned is are fill above low =
    let leaves : LeavesRows rows (rows_after planned.changes.items planned.gone rows) last_db (change ∷ more) planned.changes.items planned.gone = planned_rows rows last_db change more planned.changes.items planned.gone are in
    let one = one_row rows last_db change is are.may.0 in
    let rest : List RowChange = all_row_changes 0 (last_db_after last_db change) more (rows_changed (row_changes 0 last_db change rows) rows) in
    let logs : row_by 0 fill.first ∷ map (row_by 0) fill.rows ≡ one.0 ∷ rest = ap (λ (l : List TreeChange). map (row_by 0) l) (sym fill.are) ∙ are.logs ∙ ap (λ (l : List RowChange). l ++ rest) one.1 in
    let first : row_by 0 fill.first ≡ one.0 = first_of (row_by 0 fill.first) one.0 (map (row_by 0) fill.rows) rest logs in
    cond-false (is_gone 0 planned.gone) [] (rows_changed (map (row_by 0) planned.changes.items) rows 0) leaves.zero_stays
    ∙ ap (λ (l : List TreeChange). rows_changed (map (row_by 0) l) rows 0) fill.are
    ∙ changed_elsewhere (map (row_by 0) fill.rows) (row_changed (row_by 0 fill.first) rows) (filled_elsewhere planned.last_db fill.rows above (fill.of_it low))
    ∙ ap (λ (x : RowChange). row_changed x rows 0) first
    ∙ ap (λ (l : List RowChange). rows_changed l rows 0) (sym one.1)

-- ---- no transaction has own changes there

within : (rows : Rows) (last_db : ℕ) (c : OwnChange) → IsSound rows last_db → MayBeCommitted rows c → c.0 ≤ last_db
within rows last_db c sound may =
    subst (λ (n : ℕ). n ≤ last_db) may.1 (number-within rows last_db may.0 sound (λ e. own_above rows c may (sym may.1 ∙ e)))

pub fill_apart : (rows : Rows) (last_db : ℕ) (own : ℕ → List OwnChange) (planned : PlannedChanges) → IsPlannedFill planned → last_db < planned.last_db → planned.last_db < 2 ^ 32 → IsSound rows last_db →
    ((u : ℕ) → AllByRecursion (MayBeCommitted rows) (own u)) → AreApart own planned.changes.items
fill_apart rows last_db own planned fill later low sound may = subst (AreApart own) (sym fill.are) (
  λ u. all_weaker (MayBeCommitted rows) (λ (c : OwnChange). c.0 ≢ fill.first.db) (λ c can e. own_above rows c can (e ∙ fill.catalog)) (own u) (may u),
  all_weaker (λ (r : TreeChange). (r.db ≡ planned.last_db) × (r.makes ≡ None)) (λ r. (u : ℕ) → AllByRecursion (λ (c : OwnChange). c.0 ≢ r.db) (own u))
      (λ r is u. all_weaker (MayBeCommitted rows) (λ (c : OwnChange). c.0 ≢ r.db)
      (λ c can e. let low_ = within rows last_db c sound can in let same = is.0 in absurd (omega (arith, low_, e, same, later))) (own u) (may u)) fill.rows (fill.of_it low),
)

-- ---- its number

pub index_makes : (change : Change) (more : List Change) → is_index change ≡ true → 1 ≤ made_by (change ∷ more)
index_makes (MakeIndex db index) more is = omega arith
index_makes (Set db at value) more is = absurd (true≢false (sym is))
index_makes (Unset db at) more is = absurd (true≢false (sym is))
index_makes (Make db kind) more is = absurd (true≢false (sym is))
index_makes (Remove db) more is = absurd (true≢false (sym is))
index_makes (Rename db to) more is = absurd (true≢false (sym is))
index_makes (Empty db) more is = absurd (true≢false (sym is))
