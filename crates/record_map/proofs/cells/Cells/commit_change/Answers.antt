use Rattle.record_map.proofs.RunLaws.{changed_runs}
use Rattle.record_map.specs.Cells.{committed}
use Rattle.record_map.proofs.cells.Cells.commit_change.Goals as goal

pub invariant_of-self : goal.invariant_of-self
invariant_of-self c = (
  c.commit_change_in.ensures.rising,
  changed_runs c.self.inside.runs.lows.entries c.self.inside.runs.bounds.items c.self.inside.cells.entries c.commit_change_in.new.cells.entries c.args.name.now (committed c.args.at c.args.last.now) c.commit_change_in.result
      c.commit_change_in.ensures.given c.commit_change_in.ensures.list c.commit_change_in.ensures.same c.self.invariant.1,
)
