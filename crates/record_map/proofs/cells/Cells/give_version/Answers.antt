use Rattle.record_map.proofs.RunLaws.{given_runs}
use Rattle.record_map.specs.Cells.{with_version}
use Rattle.record_map.proofs.cells.Cells.give_version.Goals as goal

pub invariant_of-self : goal.invariant_of-self
invariant_of-self c = (
  c.give_version_in.ensures.rising,
  given_runs c.self.inside.runs.lows.entries c.self.inside.runs.bounds.items c.self.inside.cells.entries c.give_version_in.new.cells.entries c.args.name.now (with_version c.args.version.now c.args.«data» c.args.at c.args.last.now)
      c.give_version_in.result c.give_version_in.ensures.given c.give_version_in.ensures.list c.give_version_in.ensures.same c.self.invariant.1,
)
