use Rattle.std.proofs.Common.{◌∙◌, List, ℕ, Some, OnOk, sym, ap, subst}
use Rattle.db_names.specs.Names.{HasNames, names_in, with_name}
use Rattle.db_names.proofs.Changes.{named_new, named_there}
use Rattle.db_names.proofs.db_names.DbNames.put_named.Goals as goal

pub returns-then-is_some : goal.returns-then-is_some
returns-then-is_some c catalog has n =
    has n ∙ sym (named_there (λ w. w.now) c.name.result catalog (c.args.row.name.now, c.args.row.value.now) n
    (c.name.ensures (names_in catalog) has ∙ ap (names_in catalog) c.number_of-number.ensures) (sym c.is_some.ensures ∙ c.if-is_some.true))

pub returns : goal.returns
returns c catalog has =
    named_new (λ w. w.now) c.name.result catalog (c.args.row.name.now, c.args.row.value.now) c.put.new.self c.put.result
    (c.name.ensures (names_in catalog) has ∙ ap (names_in catalog) c.number_of-number.ensures) (sym c.is_some.ensures ∙ c.if-is_some.false)
    (subst (λ (n : ℕ). OnOk c.put.result (HasNames (with_name n (Some c.args.row.name.now.key) (names_in catalog)) c.put.new.self)) c.number_of-number.ensures
    (subst (λ (t : List ℕ). OnOk c.put.result (HasNames (with_name c.number_of-number.result (Some t) (names_in catalog)) c.put.new.self)) (c.in_ok-name.ensures ∙ c.key-text.ensures)
    (c.put.ensures.ok (names_in catalog) has)))
