-- A call on records that is a transaction of its own: what is logged of its changes is what the model says.
use Rattle.std.proofs.Common.{◌≡◌, ◌∙◌, ℕ, ◌^◌, ◌<◌, ◌==◌, ◌&&◌, nat_lt, Bool, true, List, ◌∷◌, None, map, count_by, length, refl, ap, ap₂, sym, subst, arith}
use Rattle.std.specs.List.{AllByRecursion}
use Rattle.log_entry.specs.Body.{IsEntry}
use Rattle.record_tree.specs.Logged.{entry_for, is_made}
use Rattle.record_tree.specs.declared.tree_change.TreeChange.{TreeChange}
use Rattle.store_model.specs.declared.call.Call.{Call}
use Rattle.store_model.specs.declared.change.Change.{Change}
use Rattle.store_model.specs.declared.record_change.RecordChange.{RecordChange}
use Rattle.store_model.specs.declared.record_change.RecordChange.TheVariants.{Set, Unset}
use Rattle.store_model.specs.declared.store.Store.{Store}
use Rattle.store_model.specs.declared.totals.Totals.{Totals}
use Rattle.store_model.specs.Refusals.{made_by}
use Rattle.store_model.specs.Store.{all_changed, change_in, record_count}
use Rattle.je_answers.specs.Alone.{Alone}
use Rattle.je_answers.specs.Standing.{Standing}
use Rattle.je_answers.specs.Views.{changes_named, with_names, with_numbers}
use Rattle.log_replay.specs.Rows.{Rows, numbers_of}
use Rattle.log_replay.proofs.TransactionLaws.{records_may_be_logged}
use Rattle.txn_core.specs.Known.{Known, has_number}
use Rattle.txn_core.specs.Planning.{IsPlannedLog, gone_by, outcome_alone, row_by}
use Rattle.txn_core.specs.Totals.{totals_of}
use Rattle.txn_core.specs.declared.planned_changes.PlannedChanges.{PlannedChanges}
use Rattle.txn_core.proofs.NumberLaws.{not_under}
use Rattle.txn_log.specs.Own.{OwnChange}
use Rattle.txn_log.specs.Committing.{MakesStore, MayBeCommitted, OwnAreCommitted, records_had, records_set}
use Rattle.txn_log.proofs.CommittingLaws.{own_may_be_committed}
use Rattle.txn_log.proofs.CountLaws.{records_are_counted}
use Rattle.environment.specs.Auto.{IsAutoLog}
use Rattle.environment.specs.Changing.{MayMake, has_data, sets_data}
use Rattle.environment.proofs.ChangeLaws.{Changed, all_there, entries_are, had_counted, makes_none, may_commit, may_log, names_are, rows_are, sets_counted}

-- a change of a record takes no database's tree
none_goes : (rows : Rows) (c : Changed) → None ≡ gone_by rows (change_in c.0.1.name c.1)
none_goes rows c = by_change c.1
  where
    by_change : (r : RecordChange) → None ≡ gone_by rows (change_in c.0.1.name r)
    by_change (Set at value) = refl
    by_change (Unset at) = refl

module _ (known : Known) (p : Alone) (session : ℕ) (call : Call) (planned : PlannedChanges) (st : Standing) (c : Changed) (cs : List Changed) (makes : MakesStore known.rows known.last_db st) (may : MayMake st (c ∷ cs))
    (store : st.store ≡ p.store) (totals : known.totals ≡ totals_of p.store) (few_dbs : known.last_db < 2 ^ 32) (outcome : (outcome_alone p session call).changes ≡ with_names (c ∷ cs))
    (log : IsAutoLog known.rows known.totals known.last_db (with_numbers (c ∷ cs)) planned) where
  abbrev own_ : List OwnChange
  own_ = with_numbers (c ∷ cs)

  committed_ : AllByRecursion (MayBeCommitted known.rows) own_
  committed_ = may_commit known.rows known.last_db st makes (c ∷ cs) may.right

  names_ : changes_named st own_ ≡ with_names (c ∷ cs)
  names_ = names_are st (c ∷ cs) may.right

  own_committed : OwnAreCommitted known.rows known.last_db st own_
  own_committed = own_may_be_committed known.rows known.last_db st own_ makes committed_

  made_ : made_by (with_names (c ∷ cs)) ≡ 0
  made_ = ap made_by (sym names_) ∙ own_committed.made

  -- as many databases, and as many records as the changes leave
  databases_ : planned.totals.databases ≡ length (all_changed (with_names (c ∷ cs)) p.store).databases
  databases_ =
      log.databases ∙ ap (λ (t : Totals). t.databases) totals ∙ ap (λ (s : Store). length s.databases) (sym (makes.store ∙ store)) ∙ sym own_committed.databases
      ∙ ap (λ (s : Store). length s.databases) own_committed.store ∙ ap₂ (λ (l : List Change) (s : Store). length (all_changed l s).databases) names_ (makes.store ∙ store)

  had_ : count_by (has_data known.rows) planned.changes.items ≡ records_had own_ known.rows
  had_ = ap (count_by (has_data known.rows)) log.changes ∙ had_counted own_ known.rows may.apart

  set_ : count_by sets_data planned.changes.items ≡ records_set own_
  set_ = ap (count_by sets_data) log.changes ∙ sets_counted own_

  records_ : planned.totals.records ≡ record_count (all_changed (with_names (c ∷ cs)) p.store)
  records_ =
      let counted = records_are_counted known.rows known.last_db st own_ makes committed_ in
      let after : record_count (all_changed (changes_named st own_) st.store) ≡ record_count (all_changed (with_names (c ∷ cs)) p.store) =
      ap₂ (λ (l : List Change) (s : Store). record_count (all_changed l s)) names_ store in
      let before : known.totals.records ≡ record_count st.store = ap (λ (t : Totals). t.records) totals ∙ ap record_count (sym store) in
      let had = had_ in
      let set = set_ in
      let planned_are = log.records in
      omega (arith, counted, after, before, had, set, planned_are)

  pub planned_log : IsPlannedLog known p session call planned
  planned_log = record {
    change = change_in c.0.1.name c.1;
    more = with_names cs;
    changes = outcome;
    rows = λ txn. ap (map (row_by txn)) log.changes ∙ rows_are known.rows known.last_db st makes txn (c ∷ cs) may.right;
    entries = λ txn low. subst (AllByRecursion (λ (e : TreeChange). IsEntry (entry_for txn e.db e.name e.value))) (sym log.changes)
        (entries_are known.rows known.last_db st makes txn (c ∷ cs) low few_dbs may.right may.fits);
    may = λ few. records_may_be_logged known.rows known.last_db (with_names (c ∷ cs)) (may_log known.rows known.last_db st makes (c ∷ cs) may.right);
    last_db = let last = log.last_db_is in let none = made_ in omega (arith, last, none);
    totals = ap₂ (λ (d r : ℕ). let t : Totals = record { databases = d; records = r } in t) databases_ records_;
    there = λ plain. subst (AllByRecursion (λ (e : TreeChange). has_number (numbers_of known.rows) e.db ≡ true)) (sym log.changes) (all_there known.rows known.last_db st makes (c ∷ cs) may.right);
    made = λ few d. ap (is_made d) log.changes ∙ makes_none d own_ ∙ sym (ap (λ (b : Bool). b && (d == planned.last_db)) (ap (nat_lt known.last_db) log.last_db_is ∙ not_under known.last_db));
    gone_is = log.gone ∙ none_goes known.rows c;
    few = λ plain. log.few;
  }
