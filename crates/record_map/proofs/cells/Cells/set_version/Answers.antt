use Rattle.std.proofs.Common.{List, IsSome, subst, sym}
use Rattle.je_order.specs.declared.name.Name.{Name}
use Rattle.record_map.specs.declared.cell.Cell.{Cell}
use Rattle.record_map.specs.Cells.{value_at, with_version}
use Rattle.record_map.proofs.RunLaws.{kept_runs}
use Rattle.record_map.proofs.cells.Cells.set_version.Goals as goal

pub invariant_of-self : goal.invariant_of-self
invariant_of-self c = (
  c.set_version_in.ensures.rising,
  kept_runs c.self.inside.runs.lows.entries c.self.inside.runs.bounds.items c.self.inside.cells.entries c.set_version_in.new.cells.entries c.args.name.now (with_version c.args.version c.args.«data» c.args.at c.args.last.now)
      (subst (λ (l : List (Name × Cell)). IsSome (value_at c.args.name.now l)) (sym c.self.view_is) c.requires) c.set_version_in.ensures.list c.self.invariant.1,
)
