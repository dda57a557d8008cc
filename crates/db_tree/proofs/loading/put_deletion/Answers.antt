use Rattle.std.proofs.Common.{◌∙◌, is_eq, subst, sym}
use Rattle.je_order.specs.Order.{name_cmp}
use Rattle.je_order.specs.declared.name.Name.{Name}
use Rattle.db_tree.specs.Loading.{GetsDeletions}
use Rattle.db_tree.proofs.Ending.{ok_then}
use Rattle.db_tree.proofs.LoadingLaws.{gets_had, gets_put}
use Rattle.db_tree.proofs.loading.put_deletion.Goals as goal

pub returns-then-has_version-clause-got : goal.returns-then-has_version-clause-got
returns-then-has_version-clause-got c =
    subst (λ (n : Name). GetsDeletions (λ x. is_eq (name_cmp n x)) c.args.at c.args.cells.now c.args.cells.now) c.in_ok-name.ensures
    (gets_had c.in_ok-name.name c.args.at c.args.cells.now (sym c.has_version.ensures ∙ c.if-has_version.true))

pub returns-clause-got : goal.returns-clause-got
returns-clause-got c =
    ok_then c.insert.result
    (λ put. subst (λ (n : Name). GetsDeletions (λ x. is_eq (name_cmp n x)) c.args.at c.args.cells.now c.insert.new.self) c.in_ok-name.ensures
    (gets_put c.in_ok-name.name c.args.at c.deleted_cell.result c.args.cells.now c.insert.new.self c.deleted_cell.ensures (sym c.has_version.ensures ∙ c.if-has_version.false) put))
    c.insert.ensures.others
