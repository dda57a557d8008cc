use Rattle.std.proofs.Common.{rules, ◌≡◌, not, filter, IfOk, subst, is_eq}
use Rattle.je_order.specs.Order.{name_cmp}
use Rattle.je_order.specs.declared.name.Name.{Name}
use Rattle.store_model.specs.Store.{Pair, name_of}
use Rattle.store_eval.proofs.changing.unset_pair.Goals as goal

pub returns : goal.returns
returns c =
    let kind = c.args.kind in
    subst (λ (n : Name). IfOk c.copies_where.result (λ list. list ≡ filter (λ (p : Pair). not (is_eq (name_cmp (name_of kind p) n))) c.args.pairs.now)) c.in_ok-name.ensures
    (c.copies_where.ensures (λ (p : Pair). not (is_eq (name_cmp (name_of kind p) c.in_ok-name.name))) (λ x b h. search rules))
