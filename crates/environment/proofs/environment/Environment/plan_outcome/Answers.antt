use Rattle.std.proofs.Common.{None, refl}
use Rattle.environment.proofs.PlanLaws.{outcome_by, readable_by}
use Rattle.environment.proofs.environment.Environment.plan_outcome.Goals as goal

pub plan_outcome-requires : goal.plan_outcome-requires
plan_outcome-requires g c =
    let h = c.requires.here in
    readable_by c.args.self.now.engine.trees c.args.txn c.args.level c.args.db.now c.args.found c.args.call.now None c.are_ordered.ensures g.D.Disk.meaning c.args.self.now refl c.target_at-on.result c.target_at-on.ensures h.0 h.1
    h.2 h.3 h.4 h.5 h.6 h.8 h.9

pub returns-in-Ok : goal.returns-in-Ok
returns-in-Ok g c =
    outcome_by c.args.self.now.engine.trees c.args.txn c.args.level c.args.db.now c.args.found c.args.call.now None c.are_ordered.ensures g.D.Disk.meaning c.args.self.now refl c.target_at-on.result c.target_at-on.ensures _
    c.in-Ok.ensures
