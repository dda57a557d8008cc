use Rattle.std.proofs.Common.{◌∙◌, List, ap}
use Rattle.je_order.specs.declared.name.Name.{Name}
use Rattle.record_map.specs.declared.cell.Cell.{Cell}
use Rattle.record_map.specs.Cells.{value_at}
use Rattle.db_tree.proofs.Records.{given_has}
use Rattle.db_tree.proofs.tree.make_logged.Goals as goal

pub returns-in-Ok-clause-cell : goal.returns-in-Ok-clause-cell
returns-in-Ok-clause-cell c =
    given_has c.args.cells.now c.give_version.new.self c.args.name.now c.args.value c.args.at c.args.commit c.args.last.now c.logged-version.result.0 c.logged-version.result.1 c.logged-version.ensures.version c.logged-version.ensures.bytes
    c.in-Ok.ensures.given c.in-Ok.ensures.others

pub put_version-requires : goal.put_version-requires
put_version-requires c = ap (λ (l : List (Name × Cell)). value_at c.args.name.now l) c.in-Err.ensures.same ∙ c.in-Err.ensures.absent
