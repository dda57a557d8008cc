use Rattle.std.proofs.Common.{refl}
use Rattle.std.specs.Option.{option_copied}
use Rattle.environment.proofs.PlanLaws.{planned_by, readable_by}
use Rattle.environment.proofs.environment.Environment.plan.Goals as goal

pub plan_target-requires : goal.plan_target-requires
plan_target-requires g c =
    let h = c.requires.here in
    readable_by c.args.self.now.engine.trees c.args.txn c.args.level c.args.db.now c.args.found c.args.call.now (option_copied c.args.at) c.are_ordered.ensures g.D.Disk.meaning c.args.self.now refl c.target_at-on.result
    c.target_at-on.ensures h.0 h.1 h.2 h.3 h.4 h.5 h.6 h.8 h.9

pub returns-in-Ok : goal.returns-in-Ok
returns-in-Ok g c =
    planned_by c.args.self.now.engine.trees c.args.txn c.args.level c.args.db.now c.args.found c.args.call.now (option_copied c.args.at) c.are_ordered.ensures g.D.Disk.meaning c.args.self.now refl c.target_at-on.result
    c.target_at-on.ensures _ c.in_ok-others.ensures c.in-Ok.ensures
