use Rattle.std.proofs.Common.{List, subst, sym}
use Rattle.std.specs.BTreeMap.{is_at}
use Rattle.je_order.specs.Order.{name_cmp}
use Rattle.je_order.specs.declared.name.Name.{Name}
use Rattle.record_map.specs.declared.cell.Cell.{Cell}
use Rattle.record_map.specs.Runs.{AreRuns}
use Rattle.record_map.proofs.RunLaws.{removed_runs}
use Rattle.record_map.proofs.cells.Cells.remove.Goals as goal

pub invariant_of-self : goal.invariant_of-self
invariant_of-self c =
    let lows = c.self.inside.runs.lows.entries in
    let bounds = c.self.inside.runs.bounds.items in
    (c.remove.ensures.ordered, subst (λ (l : List (Name × Cell)). AreRuns lows bounds l) (sym c.remove.ensures.entries) (removed_runs lows bounds c.self.inside.cells.entries (is_at (name_cmp c.args.name.now)) c.self.invariant.1))
