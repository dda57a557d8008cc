use Rattle.std.proofs.Common.{◌∙◌, Some, ap, cond, is_eq, option_map, sym}
use Rattle.je_order.specs.Order.{name_cmp}
use Rattle.je_order.specs.declared.name.Name.{Name}
use Rattle.record_map.specs.Cells.{is_as_shown, value_at}
use Rattle.record_map.proofs.NameLaws.{same_gets}
use Rattle.db_tree.proofs.tree.put_version.Goals as goal

pub returns-clause-shown : goal.returns-clause-shown
returns-clause-shown c =
    let name = c.args.name.now in
    let cell = c.set_version.new.self in
    let old = c.args.cells.now in
    ap (option_map (is_as_shown c.args.last.now))
    (c.in_ok-insert.ensures.others name ∙ ap (λ (k : Name). cond (is_eq (name_cmp k name)) (Some cell) (value_at name old)) c.in_ok-copy.ensures ∙ same_gets name (Some cell) (value_at name old))
    ∙ ap (λ s. Some s) (sym c.is_as_shown-is_shown.ensures)
