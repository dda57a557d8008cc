use Rattle.std.proofs.Common.{◌≡◌, ◌∙◌, true, [], IfOk, ap, ap₂, sym, subst}
use Rattle.std.proofs.lemmas.Bool.{cond-true}
use Rattle.store_model.specs.declared.store.Database.{Database}
use Rattle.store_model.specs.Store.{with_pairs}
use Rattle.je_order.specs.Order.{is_same_bytes}
use Rattle.store_eval.proofs.changing.emptied.Goals as goal

pub returns-then-same_bytes : goal.returns-then-same_bytes
returns-then-same_bytes c =
    let d = c.args.d.now in
    let same : is_same_bytes d.name c.args.db.now ≡ true =
    ap₂ is_same_bytes (sym c.as_slice.ensures.value) (sym c.as_slice-2.ensures.value) ∙ sym c.same_bytes.ensures ∙ c.if-same_bytes.true in
    subst (λ (x : Database). IfOk c.copy_with.result (λ copy. copy ≡ x))
    (ap (with_pairs d) c.new.ensures ∙ sym (cond-true (is_same_bytes d.name c.args.db.now) (with_pairs d []) d same)) c.copy_with.ensures
