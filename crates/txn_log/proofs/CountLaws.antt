-- How many records own changes leave.
use Rattle.std.proofs.Common.{◌≡◌, ℕ, ◌+◌, List, [], ◌∷◌, Option, None, Some, true, refl, sym, ap, ap₂, subst, ◌∙◌, arith}
use Rattle.std.specs.Prelude.{◌≢◌}
use Rattle.std.specs.List.{AllByRecursion}
use Rattle.je_order.proofs.Lists.{all_weaker}
use Rattle.store_model.specs.declared.store.Store.{Store}
use Rattle.store_model.specs.Store.{all_changed, record_count}
use Rattle.je_answers.specs.Standing.{Standing}
use Rattle.je_answers.specs.Views.{changes_named}
use Rattle.log_replay.specs.Rows.{Rows, IsRising, data_at, is_environment, row_changed, store_of}
use Rattle.log_replay.specs.Laws.{one_if}
use Rattle.log_replay.specs.Logging.{number_named}
use Rattle.log_replay.proofs.TotalLaws.{record_count-set, record_count-set_again, record_count-unset, record_count-unset_none}
use Rattle.record_tree.specs.Logged.{last_change, value_changed}
use Rattle.txn_log.specs.Own.{OwnChange, row_of, tree_of}
use Rattle.txn_log.specs.Committing.{HadGoOn, HadStay, MakesStore, MayBeCommitted, OwnAreCommitted, RecordsAreCounted, records_had, records_set, rows_own}
use Rattle.txn_log.proofs.CommittingLaws.{catalog_stays, data_own, own_above, own_may_be_committed}
use Rattle.txn_log.proofs.StayingLaws.{may_stay}

-- one change
one_counted : (rows : Rows) (c : OwnChange) → is_environment rows ≡ true → ((d : ℕ) → IsRising (rows d)) → MayBeCommitted rows c →
    record_count (store_of (row_changed (row_of c) rows)) + one_if (data_at (row_of c).name (rows c.0)) ≡ record_count (store_of rows) + one_if (row_of c).value
one_counted rows c env up may = by_data (data_at (row_of c).name (rows c.0)) (row_of c).value refl refl where
  above : number_named rows may.0 ≢ 0
  above e = own_above rows c may (sym may.1 ∙ e)

  by_data : (o v : Option (List ℕ)) → data_at (row_of c).name (rows c.0) ≡ o → (row_of c).value ≡ v →
      record_count (store_of (row_changed (row_of c) rows)) + one_if o ≡ record_count (store_of rows) + one_if v
  by_data None None at is = let same = record_count-unset_none rows may.0 (row_of c) env above (sym may.1) is at in omega (arith, same)
  by_data None (Some value) at is = let more = record_count-set rows may.0 (row_of c) value env above (sym may.1) is at in omega (arith, more)
  by_data (Some old) None at is = let less = record_count-unset rows may.0 (row_of c) old env (up c.0) above (sym may.1) is at in omega (arith, less)
  by_data (Some old) (Some value) at is = let same = record_count-set_again rows may.0 (row_of c) value old env (up c.0) above (sym may.1) is at in omega (arith, same)

-- a standing with other records
with_rows : Rows → Standing → Standing
with_rows rows st = record st { store = store_of rows; numbers = number_named rows }

makes_own : (rows : Rows) (last_db : ℕ) (st : Standing) (c : OwnChange) → MakesStore rows last_db st → MayBeCommitted rows c → MakesStore (row_changed (row_of c) rows) last_db (with_rows (row_changed (row_of c) rows) st)
unfolding with_rows
makes_own rows last_db st c makes may =
    let one : OwnAreCommitted rows last_db st (c ∷ []) = own_may_be_committed rows last_db st (c ∷ []) makes (may, tt) in
    record { environment = one.leaves.environment; rising = one.leaves.rising; unused = one.leaves.unused; numbers = one.leaves.numbers; store = refl; named = λ name. refl }

counted : (rows : Rows) (last_db : ℕ) (st : Standing) (own : List OwnChange) → MakesStore rows last_db st → AllByRecursion (MayBeCommitted rows) own →
    record_count (store_of (rows_own own rows)) + records_had own rows ≡ record_count (store_of rows) + records_set own
counted rows last_db st [] makes may = refl
counted rows last_db st (c ∷ own) makes may =
    let next : Rows = row_changed (row_of c) rows in
    let catalog : next 0 ≡ rows 0 = catalog_stays (c ∷ []) rows (own_above rows c may.0, tt) in
    let rest = counted next last_db (with_rows next st) own (makes_own rows last_db st c makes may.0) (all_weaker (MayBeCommitted rows) (MayBeCommitted next) (λ e m. may_stay rows next e catalog m) own may.1) in
    let one = one_counted rows c makes.environment makes.rising may.0 in
    omega (arith, rest, one)

pub records_are_counted : RecordsAreCounted
records_are_counted rows last_db st own makes may =
    let all : OwnAreCommitted rows last_db st own = own_may_be_committed rows last_db st own makes may in
    subst (λ (s : Store). record_count (all_changed (changes_named st own) s) + records_had own rows ≡ record_count s + records_set own) makes.store
    (subst (λ (s : Store). record_count s + records_had own rows ≡ record_count (store_of rows) + records_set own) all.store (counted rows last_db st own makes may))

pub had_go_on : HadGoOn
had_go_on rows [] more = omega arith
had_go_on rows (c ∷ own) more = let rest = had_go_on (row_changed (row_of c) rows) own more in omega (arith, rest)

pub had_stay : HadStay
had_stay rows later [] same = refl
had_stay rows later (c ∷ own) same =
    ap₂ (λ (a b : ℕ). a + b) (ap one_if same.0)
    (had_stay (row_changed (row_of c) rows) (row_changed (row_of c) later) own
    (all_weaker (λ (e : OwnChange). data_at (row_of e).name (later e.0) ≡ data_at (row_of e).name (rows e.0))
    (λ e. data_at (row_of e).name (row_changed (row_of c) later e.0) ≡ data_at (row_of e).name (row_changed (row_of c) rows e.0))
    (λ e is. data_own (c ∷ []) later e.0 (row_of e).name ∙ ap (value_changed (last_change e.0 (row_of e).name (tree_of c ∷ []))) is ∙ sym (data_own (c ∷ []) rows e.0 (row_of e).name)) own same.1))
