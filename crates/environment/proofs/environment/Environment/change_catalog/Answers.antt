use Rattle.std.proofs.Common.{◌∙◌, arith, sym}
use Rattle.je_disk.specs.Moments.{now}
use Rattle.log_buffer.specs.Buffer.{disk_of}
use Rattle.engine.specs.Whole.{contents_of}
use Rattle.engine.proofs.CallLaws.{can_plan}
use Rattle.environment.proofs.CatalogEnds.{alone_at, ended_performs, none_performs}
use Rattle.environment.proofs.CatalogStanding.{alone_of, catalog_call}
use Rattle.environment.proofs.environment.Environment.change_catalog.Goals as goal

pub returns-then-self-ge-LAST_TXN : goal.returns-then-self-ge-LAST_TXN
returns-then-self-ge-LAST_TXN g c = record {
  performs = ended_performs g.D.Disk.meaning c.args.self.now c.args.session c.args.call.now c.requires.call
      c.if-self-ge-LAST_TXN.true c.requires.valid c.requires.bounds;
}

pub plan-requires-clause-can : goal.plan-requires-clause-can
plan-requires-clause-can g c =
    let e = c.args.self.now in
    let at = c.requires.here.2 in
    can_plan c.requires.here.0 g.D.Disk.meaning.observable (now (g.D.Disk.meaning.history (disk_of e.engine.trees.log))) e.engine.trees.log (contents_of e.engine) (alone_of c.requires.here.1)
    (alone_at c.requires.here.0 g.D.Disk.meaning e c.requires.here.1 at) (sym at.fault ∙ c.requires.valid)

pub plan-requires-clause-call : goal.plan-requires-clause-call
plan-requires-clause-call g c = catalog_call c.args.call.now c.requires.call

pub returns-in-Err : goal.returns-in-Err
returns-in-Err g c = record {
  performs = none_performs g.D.Disk.meaning c.args.self.now c.args.session c.args.call.now c.in-Err.error c.requires.bounds;
}

pub returns-in-Ok : goal.returns-in-Ok
returns-in-Ok g c = record { performs = c.change_planned.ensures.performs }

pub change_planned-requires-clause-few : goal.change_planned-requires-clause-few
change_planned-requires-clause-few g c = omega arith
