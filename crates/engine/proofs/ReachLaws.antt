-- How many changes of trees log changes of the store, how far a log and its trees reach with them, and the limit that they meet.
use Rattle.std.proofs.Common.{◌≡◌, ℕ, ◌+◌, ◌*◌, ◌≤◌, Bool, true, false, cond, nat_lt, List, [], ◌∷◌, ◌++◌, Option, Some, None, length, map, refl, ap, ap₂, sym, subst, ◌∙◌, arith, inl, inr}
use Rattle.std.specs.List.{AllByRecursion}
use Rattle.std.proofs.lemmas.Bool.{ltb-true, true≢false}
use Rattle.std.proofs.lemmas.List.{length-append, length-map}
use Rattle.store_model.specs.declared.answer.Answer.{Answer}
use Rattle.store_model.specs.declared.answer.Answer.TheVariants.{IdsEnded}
use Rattle.store_model.specs.declared.change.Change.{Change}
use Rattle.store_model.specs.declared.change.Change.TheVariants.{Set, Unset, Make, MakeIndex, Remove, Rename, Empty}
use Rattle.db_catalog.specs.declared.db_record.DbRecord.{DbRecord}
use Rattle.db_catalog.specs.declared.catalog_change.CatalogChange.{CatalogChange}
use Rattle.db_catalog.specs.declared.catalog_change.CatalogChange.TheVariants.{Put, Delete}
use Rattle.db_catalog.specs.Planning.{indexed, logged_as, moved, renewed}
use Rattle.log_buffer.specs.Buffer.{end_of}
use Rattle.log_replay.specs.Rows.{Rows, RowChange, rows_changed}
use Rattle.log_replay.specs.Logging.{all_row_changes, catalog_row_change, last_db_after, record_named, row_changes}
use Rattle.record_tree.specs.declared.tree_change.TreeChange.{TreeChange}
use Rattle.record_tree.specs.declared.tree_err.TreeErr.{TreeErr}
use Rattle.record_tree.specs.declared.tree_err.TreeErr.TheVariants.{Fault, Full, IdsEnded as NoNumber, Memory}
use Rattle.record_tree.specs.Logged.{is_made, most_entries}
use Rattle.in_tree.specs.declared.logged_trees.LogTrees.{LogTrees}
use Rattle.in_tree.proofs.Far.{full_is_far}
use Rattle.txn_core.specs.Known.{committed}
use Rattle.in_tree.specs.Observed.{cells_of, limit_in, waits_of}
use Rattle.txn_core.specs.Planning.{row_by}
use Rattle.engine.specs.declared.engine.Engine.{Engine}
use Rattle.engine.specs.Limits.{IsBounded, last_number, limit_by, most_changed, most_logged, numbers_for}
use Rattle.engine.specs.Whole.{HasLimit, end_file, reach_of}

-- ---- files

-- a log that works, or failed before, reaches so many files farther
pub file_within : (failed_old failed_new : Bool) (old new more : ℕ) → failed_new ≡ failed_old → new ≤ old + more → cond failed_new 0 new ≤ cond failed_old 0 old + more
file_within true true old new more same le = omega arith
file_within false false old new more same le = le
file_within true false old new more same le = cc
file_within false true old new more same le = omega arith

-- ---- how many changes of records log changes of the store

row_few : (change : Change) (last_db : ℕ) (rows : Rows) → length (row_changes 0 last_db change rows) ≤ 2
row_few (Set db at value) last_db rows = omega arith
row_few (Unset db at) last_db rows = omega arith
row_few (Make db kind) last_db rows = omega arith
row_few (MakeIndex db index) last_db rows = by_record (record_named rows index.primary)
  where
    by_record : (o : Option DbRecord) → length (map (catalog_row_change 0) (indexed db (last_db + 1) index.extract o)) ≤ 2
    by_record None = omega arith
    by_record (Some r) = omega arith
row_few (Remove db) last_db rows = omega arith
row_few (Rename db to) last_db rows = by_record (record_named rows db)
  where
    by_record : (o : Option DbRecord) → length (map (catalog_row_change 0) (moved db to o)) ≤ 2
    by_record None = omega arith
    by_record (Some r) = omega arith
row_few (Empty db) last_db rows = by_record (record_named rows db)
  where
    by_record : (o : Option DbRecord) → length (map (catalog_row_change 0) (renewed db (last_db + 1) o)) ≤ 2
    by_record None = omega arith
    by_record (Some r) = omega arith

rows_few : (changes : List Change) (last_db : ℕ) (rows : Rows) → length (all_row_changes 0 last_db changes rows) ≤ length changes * 2
rows_few [] last_db rows = omega arith
rows_few (change ∷ changes) last_db rows =
    let first = row_changes 0 last_db change rows in
    let next = rows_changed first rows in
    let long = length-append first (all_row_changes 0 (last_db_after last_db change) changes next) in
    let one = row_few change last_db rows in
    let rest = rows_few changes (last_db_after last_db change) next in
    omega (arith, long, one, rest)

pub planned_few : (planned : List TreeChange) (last_db : ℕ) (changes : List Change) (rows : Rows) → map (row_by 0) planned ≡ all_row_changes 0 last_db changes rows → length planned ≤ most_changed changes
planned_few planned last_db changes rows is =
    let mapped = length-map planned (row_by 0) in
    let same = ap (λ (l : List RowChange). length l) is in
    let few = rows_few changes last_db rows in
    omega (arith, mapped, same, few)

-- ---- each has some

catalog_txn : (c : CatalogChange) → (catalog_row_change 0 c).txn ≡ 0
catalog_txn (Put db row) = refl
catalog_txn (Delete db) = refl

catalog_txns : (cs : List CatalogChange) → AllByRecursion (λ r. r.txn ≡ 0) (map (catalog_row_change 0) cs)
catalog_txns [] = tt
catalog_txns (c ∷ cs) = (catalog_txn c, catalog_txns cs)

row_txns : (change : Change) (last_db : ℕ) (rows : Rows) → AllByRecursion (λ r. r.txn ≡ 0) (row_changes 0 last_db change rows)
row_txns (Set db at value) last_db rows = (refl, tt)
row_txns (Unset db at) last_db rows = (refl, tt)
row_txns (Make db kind) last_db rows = catalog_txns (logged_as (record_named rows) (last_db + 1) (Make db kind))
row_txns (MakeIndex db index) last_db rows = catalog_txns (logged_as (record_named rows) (last_db + 1) (MakeIndex db index))
row_txns (Remove db) last_db rows = catalog_txns (logged_as (record_named rows) (last_db + 1) (Remove db))
row_txns (Rename db to) last_db rows = catalog_txns (logged_as (record_named rows) (last_db + 1) (Rename db to))
row_txns (Empty db) last_db rows = catalog_txns (logged_as (record_named rows) (last_db + 1) (Empty db))

all_join : (a b : List RowChange) → AllByRecursion (λ r. r.txn ≡ 0) a → AllByRecursion (λ r. r.txn ≡ 0) b → AllByRecursion (λ r. r.txn ≡ 0) (a ++ b)
all_join [] b first second = second
all_join (r ∷ a) b first second = (first.0, all_join a b first.1 second)

all_txns : (changes : List Change) (last_db : ℕ) (rows : Rows) → AllByRecursion (λ r. r.txn ≡ 0) (all_row_changes 0 last_db changes rows)
all_txns [] last_db rows = tt
all_txns (change ∷ changes) last_db rows =
    let first = row_changes 0 last_db change rows in
    all_join first (all_row_changes 0 (last_db_after last_db change) changes (rows_changed first rows)) (row_txns change last_db rows) (all_txns changes (last_db_after last_db change) (rows_changed first rows))

-- a change of a record as one of a tree
abbrev tree_change : RowChange → TreeChange
tree_change r = record { db = r.db; name = r.name; value = r.value; makes = None }

none_made : (d : ℕ) (rs : List RowChange) → is_made d (map tree_change rs) ≡ false
none_made d [] = refl
none_made d (r ∷ rs) = none_made d rs

back_again : (rs : List RowChange) → AllByRecursion (λ r. r.txn ≡ 0) rs → map (row_by 0) (map tree_change rs) ≡ rs
back_again [] all = refl
back_again (r ∷ rs) all =
    ap₂ (λ (x : RowChange) (l : List RowChange). x ∷ l) (ap (λ (t : ℕ). record { txn = t; db = r.db; name = r.name; value = r.value }) (sym all.0)) (back_again rs all.1)

module _ {D : Type 0} where
  -- an engine has a limit for whatever changes
  pub limit_there : (engine : Engine D) (changes : List Change) → (limit : Option Answer) × HasLimit engine changes limit
  limit_there engine [] = (None, refl)
  limit_there engine (change ∷ more) =
      let rows : List RowChange = all_row_changes 0 engine.kept.last_db (change ∷ more) (committed (cells_of engine.trees)) in
      (_, record { planned = map tree_change rows; rows = back_again rows (all_txns (change ∷ more) engine.kept.last_db (committed (cells_of engine.trees))); makes = λ low d made. absurd (true≢false (sym made ∙ none_made d rows)); is = refl })

  -- ---- the limit is a bound

  limit_bounded : (trees : LogTrees D) (node : ℕ) (changes : List Change) (planned : List TreeChange) → length planned ≤ most_changed changes → most_entries (most_changed changes) + 1 ≤ most_logged changes →
      IsBounded (record { file = end_file trees; node = node }) changes (limit_by (limit_in trees planned 1) node (length planned))
  limit_bounded trees node changes planned few logged = by_found (limit_in trees planned 1) refl
    where
      ended_by : (b : Bool) → nat_lt last_number (node + numbers_for (length planned)) ≡ b → IsBounded (record { file = end_file trees; node = node }) changes (cond b (Some IdsEnded) None)
      ended_by true e = let past = ltb-true last_number (node + numbers_for (length planned)) e in inr (inr (refl, omega (arith, past, few)))
      ended_by false e = inl refl

      ended : IsBounded (record { file = end_file trees; node = node }) changes (cond (nat_lt last_number (node + numbers_for (length planned))) (Some IdsEnded) None)
      ended = ended_by (nat_lt last_number (node + numbers_for (length planned))) refl

      by_found : (found : Option TreeErr) → limit_in trees planned 1 ≡ found → IsBounded (record { file = end_file trees; node = node }) changes (limit_by found node (length planned))
      by_found None is = ended
      by_found (Some Full) is =
          let far = full_is_far trees planned 1 is in
          let end : end_file trees ≡ (end_of trees.log).file + waits_of trees = ap (λ (b : Bool). cond b 0 ((end_of trees.log).file + waits_of trees)) far.0 in
          let past = far.1 in
          inr (inl (refl, omega (arith, end, past, few, logged)))
      by_found (Some NoNumber) is = ended
      by_found (Some Fault) is = ended
      by_found (Some Memory) is = ended

  pub bounded : (engine : Engine D) (changes : List Change) (limit : Option Answer) → HasLimit engine changes limit → IsBounded (reach_of engine) changes limit
  bounded engine [] limit has = inl has
  bounded engine (change ∷ more) limit has =
      subst (IsBounded (reach_of engine) (change ∷ more)) (sym has.is)
      (limit_bounded engine.trees engine.kept.last_node (change ∷ more) has.planned (planned_few has.planned engine.kept.last_db (change ∷ more) (committed (cells_of engine.trees)) has.rows) (omega arith))
