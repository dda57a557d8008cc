use Rattle.std.proofs.Common.{rules, ◌≡◌, ◌++◌, ◌∷◌, filter, IfOk, subst, is_lt, is_gt}
use Rattle.je_order.specs.Order.{name_cmp}
use Rattle.je_order.specs.declared.name.Name.{Name}
use Rattle.store_model.specs.Store.{Pair, name_of, pair_for}
use Rattle.store_eval.proofs.changing.set_pair.Goals as goal

pub returns : goal.returns
returns c =
    let kind = c.args.kind in
    let pairs = c.args.pairs.now in
    let set =
    c.with_item.ensures (λ (p : Pair). is_lt (name_cmp (name_of kind p) c.in_ok-name.name)) (λ (p : Pair). is_gt (name_cmp (name_of kind p) c.in_ok-name.name))
    (λ x b h. search rules) (λ x b h. search rules) in
    subst (λ (n : Name). IfOk c.with_item.result (λ list.
    list ≡ filter (λ (p : Pair). is_lt (name_cmp (name_of kind p) n)) pairs
    ++ pair_for kind c.args.at.now c.args.value.now ∷ filter (λ (p : Pair). is_gt (name_cmp (name_of kind p) n)) pairs)) c.in_ok-name.ensures
    (subst (λ (x : Pair). IfOk c.with_item.result (λ list.
    list ≡ filter (λ (p : Pair). is_lt (name_cmp (name_of kind p) c.in_ok-name.name)) pairs
    ++ x ∷ filter (λ (p : Pair). is_gt (name_cmp (name_of kind p) c.in_ok-name.name)) pairs)) c.in_ok-new.ensures set)
