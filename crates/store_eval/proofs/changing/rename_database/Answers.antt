use Rattle.std.proofs.Common.{◌≡◌, ◌∙◌, IfOk, ap, sym, subst, List, map}
use Rattle.store_model.specs.declared.store.Database.{Database}
use Rattle.std.specs.Option.{option_copied}
use Rattle.store_model.specs.Store.{with_primary, databases_with, databases_without, databases_renamed}
use Rattle.store_eval.proofs.changing.rename_database.Goals as goal

pub returns : goal.returns
returns c =
    let d = c.in-Some.d.now in
    let others = c.as_slice-2.ensures ∙ c.in_ok-others.ensures ∙ ap (databases_without d.name) c.as_slice.ensures in
    let named : List Database → List Database = map (with_primary d.name c.args.to.now) in
    subst (λ (l : List Database). IfOk c.rename_primaries.result (λ list. list ≡ l))
    (ap named (c.as_slice-3.ensures ∙ c.in_ok-all.ensures ∙ ap (databases_with c.in_ok-new.new) others
    ∙ ap (λ (n : Database). databases_with n (databases_without d.name c.args.databases.now)) c.in_ok-new.ensures)
    ∙ sym (ap (λ o. databases_renamed (option_copied o) c.args.to.now c.args.databases.now) c.in-Some.is)) c.rename_primaries.ensures
