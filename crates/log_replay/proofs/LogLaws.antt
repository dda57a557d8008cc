-- What a log means, and what one more transaction in it leaves.
use Rattle.std.proofs.Common.{◌≡◌, ℕ, ◌<◌, ◌≤◌, max, List, [], ◌∷◌, true, false, cond, not, ◌==◌, Option, None, Some, filter, sym, ◌∙◌, ⊎_elim, arith}
use Rattle.std.specs.List.{AllByRecursion}
use Rattle.std.proofs.lemmas.Bool.{cases_Bool, cond_both, cond-true, cond-false, eqb-true, eq-eqb}
use Rattle.je_order.specs.declared.name.Name.{Name}
use Rattle.je_order.specs.Order.{name_cmp}
use Rattle.std.specs.Ordering.{is_eq, is_lt, is_gt}
use Rattle.log_entry.specs.declared.entry.Entry.{Entry}
use Rattle.log_entry.specs.declared.entry.Entry.TheVariants.{Put, Delete, Commit}
use Rattle.log_replay.specs.Rows.{Row, Rows, RowChange, row_changed, rows_changed, rows_with, catalog_number}
use Rattle.log_replay.specs.Replay.{Replay, nothing_replayed, changes_of, replayed_entry, replayed, txn_in, db_in, greatest}
use Rattle.log_replay.specs.Kept.{IsOfBefore, IsKept}
use Rattle.je_order.proofs.Lists.{all_weaker, all_append, all_kept}
use Rattle.log_replay.proofs.StoreLaws.{row_changed-there}

-- ---- a replay stays within the numbers of its entries

-- the number in a record's data is at most this, if there is data
abbrev pub value_at_most : ℕ → Option (List ℕ) → Type 0
value_at_most most None = Unit {0}
value_at_most most (Some value) = catalog_number value ≤ most

-- a change has numbers at most these, the one in a catalog record included
pub record IsWithin (last_txn last_db : ℕ) (change : RowChange) : Type 0 where
  pub txn : change.txn ≤ last_txn
  pub db : change.db ≤ last_db
  pub number : change.db ≡ 0 → value_at_most last_db change.value

-- records have numbers at most this
pub record AreWithin (last_db : ℕ) (rows : Rows) : Type 0 where
  pub unused : (db : ℕ) → last_db < db → rows db ≡ []
  pub numbers : AllByRecursion (λ (r : Row). catalog_number r.1 ≤ last_db) (rows 0)

-- a change with such a number keeps the catalog's numbers at most this
numbers_with : (last_db : ℕ) (at : Name) (value : Option (List ℕ)) (rows : List Row) → value_at_most last_db value →
    AllByRecursion (λ (r : Row). catalog_number r.1 ≤ last_db) rows → AllByRecursion (λ (r : Row). catalog_number r.1 ≤ last_db) (rows_with at value rows)
numbers_with last_db at None rows fits all = all_kept (λ (r : Row). catalog_number r.1 ≤ last_db) (λ r. not (is_eq (name_cmp r.0 at))) rows all
numbers_with last_db at (Some value) rows fits all =
    let P : Row → Type 0 = λ r. catalog_number r.1 ≤ last_db in
    all_append P (filter (λ (r : Row). is_lt (name_cmp r.0 at)) rows) ((at, value) ∷ filter (λ (r : Row). is_gt (name_cmp r.0 at)) rows)
    (all_kept P (λ r. is_lt (name_cmp r.0 at)) rows all) (fits, all_kept P (λ r. is_gt (name_cmp r.0 at)) rows all)

-- a change within the numbers keeps records within them
pub within-changed : (last_txn last_db : ℕ) (c : RowChange) (rows : Rows) → IsWithin last_txn last_db c → AreWithin last_db rows → AreWithin last_db (row_changed c rows)
within-changed last_txn last_db c rows here all = record {
  unused = λ db above. row_changed-there c rows db (λ e. let at_most : c.db ≤ last_db = here.db in absurd (omega arith)) ∙ all.unused db above;
  numbers =
      cond_both (0 == c.db) (rows_with c.name c.value (rows 0)) (rows 0) (λ l. AllByRecursion (λ (r : Row). catalog_number r.1 ≤ last_db) l)
      (λ e. numbers_with last_db c.name c.value (rows 0) (here.number (sym (eqb-true 0 c.db e))) all.numbers)
      (λ e. all.numbers);
}

-- and so do several changes
pub within-all_changed : (last_txn last_db : ℕ) (cs : List RowChange) (rows : Rows) → AllByRecursion (IsWithin last_txn last_db) cs → AreWithin last_db rows →
    AreWithin last_db (rows_changed cs rows)
within-all_changed last_txn last_db [] rows here all = all
within-all_changed last_txn last_db (c ∷ cs) rows here all =
    within-all_changed last_txn last_db cs (row_changed c rows) here.1 (within-changed last_txn last_db c rows here.0 all)

-- a replay is within the numbers
record IsReplayWithin (last_txn last_db : ℕ) (replay : Replay) : Type 0 where
  pending : AllByRecursion (IsWithin last_txn last_db) replay.pending
  rows : AreWithin last_db replay.rows

-- what the number of a put says of its database, and of a catalog record
put_within : (last_db db : ℕ) (value : List ℕ) → cond (db == 0) (catalog_number value) db ≤ last_db → (db ≤ last_db) × (db ≡ 0 → catalog_number value ≤ last_db)
put_within last_db db value h = (
  ⊎_elim
      (λ (e : (db == 0) ≡ true). let zero_is : db ≡ 0 = eqb-true db 0 e in let r : db ≤ last_db = omega arith in r)
      (λ (e : (db == 0) ≡ false). let is : cond (db == 0) (catalog_number value) db ≡ db = cond-false (db == 0) (catalog_number value) db e in let r : db ≤ last_db = omega arith in r)
      (cases_Bool (db == 0)),
  λ e. let is : cond (db == 0) (catalog_number value) db ≡ catalog_number value = cond-true (db == 0) (catalog_number value) db (eq-eqb db 0 e) in
      let r : catalog_number value ≤ last_db = omega arith in r,
)

-- an entry within the numbers keeps a replay within them
within-entry : (last_txn last_db : ℕ) (entry : Entry) (replay : Replay) → txn_in entry ≤ last_txn → db_in entry ≤ last_db →
    IsReplayWithin last_txn last_db replay → IsReplayWithin last_txn last_db (replayed_entry entry replay)
within-entry last_txn last_db (Put txn db name value) replay txn_fits db_fits all =
    let fits = put_within last_db db value db_fits in
    record {
      pending = all_append (IsWithin last_txn last_db) replay.pending (record { txn = txn.0; db = db; name = name; value = Some value } ∷ []) all.pending
          (record { txn = txn_fits; db = fits.0; number = fits.1 }, tt);
      rows = all.rows;
    }
within-entry last_txn last_db (Delete txn db name) replay txn_fits db_fits all = record {
  pending = all_append (IsWithin last_txn last_db) replay.pending (record { txn = txn.0; db = db; name = name; value = None } ∷ []) all.pending
      (record { txn = txn_fits; db = db_fits; number = λ e. tt }, tt);
  rows = all.rows;
}
within-entry last_txn last_db (Commit txn) replay txn_fits db_fits all = record {
  pending = all_kept (IsWithin last_txn last_db) (λ c. not (c.txn == txn.0)) replay.pending all.pending;
  rows = within-all_changed last_txn last_db (changes_of txn.0 replay.pending) replay.rows
      (all_kept (IsWithin last_txn last_db) (λ c. c.txn == txn.0) replay.pending all.pending) all.rows;
}
within-entry last_txn last_db entry replay txn_fits db_fits all = all

-- and so do several entries
within-replayed : (last_txn last_db : ℕ) (entries : List Entry) (replay : Replay) →
    AllByRecursion (λ e. txn_in e ≤ last_txn) entries → AllByRecursion (λ e. db_in e ≤ last_db) entries →
    IsReplayWithin last_txn last_db replay → IsReplayWithin last_txn last_db (replayed entries replay)
within-replayed last_txn last_db [] replay txns dbs all = all
within-replayed last_txn last_db (entry ∷ entries) replay txns dbs all =
    within-replayed last_txn last_db entries (replayed_entry entry replay) txns.1 dbs.1 (within-entry last_txn last_db entry replay txns.0 dbs.0 all)

-- no entry has a greater number than the greatest
at_most_greatest : (number : Entry → ℕ) (entries : List Entry) → AllByRecursion (λ e. number e ≤ greatest number entries) entries
at_most_greatest number [] = tt
at_most_greatest number (entry ∷ entries) =
    let most = greatest number entries in (
      omega arith,
      all_weaker (λ (e : Entry). number e ≤ most) (λ e. number e ≤ max (number entry) most) (λ e h. omega arith) entries (at_most_greatest number entries),
    )

-- ---- what is kept of a log

-- a transaction that logs nothing only allocates its id
pub kept_later : (entries : List Entry) (rows : Rows) (last_txn txn last_db : ℕ) → IsKept entries rows last_txn last_db → last_txn ≤ txn → IsKept entries rows txn last_db
kept_later entries rows last_txn txn last_db kept later = record {
  same = kept.same;
  environment = kept.environment;
  rising = kept.rising;
  pending = all_weaker (IsOfBefore last_txn last_db) (IsOfBefore txn last_db)
      (λ c h. record { txn = let before : c.txn ≤ last_txn = h.txn in omega arith; db = h.db }) (replayed entries nothing_replayed).pending kept.pending;
  unused = kept.unused;
  numbers = kept.numbers;
}
