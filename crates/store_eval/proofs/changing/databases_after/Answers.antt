use Rattle.std.proofs.Common.{◌≡◌, IfOk, sym, subst, List}
use Rattle.store_model.specs.declared.change.Change.{Change}
use Rattle.store_model.specs.declared.store.Database.{Database}
use Rattle.store_model.specs.Store.{pairs_with, pairs_without, with_pairs, in_database, changed}
use Rattle.store_eval.proofs.changing.databases_after.Goals as goal

pub returns-in-Set : goal.returns-in-Set
returns-in-Set c =
    let change : Database → Database = λ d. with_pairs d (pairs_with d.kind c.in-Set.at c.in-Set.value d.pairs) in
    subst (λ (x : Change). IfOk c.set_in_each.result (λ list. list ≡ (changed x c.args.store.now).databases)) (sym c.in-Set.is)
    (subst (λ (ds : List Database). IfOk c.set_in_each.result (λ list. list ≡ in_database c.in-Set.db change ds)) c.as_slice-databases.ensures c.set_in_each.ensures)

pub returns-in-Unset : goal.returns-in-Unset
returns-in-Unset c =
    let change : Database → Database = λ d. with_pairs d (pairs_without d.kind c.in-Unset.at d.pairs) in
    subst (λ (x : Change). IfOk c.unset_in_each.result (λ list. list ≡ (changed x c.args.store.now).databases)) (sym c.in-Unset.is)
    (subst (λ (ds : List Database). IfOk c.unset_in_each.result (λ list. list ≡ in_database c.in-Unset.db change ds)) c.as_slice-databases.ensures c.unset_in_each.ensures)
