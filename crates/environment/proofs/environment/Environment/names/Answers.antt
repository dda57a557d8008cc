use Rattle.std.proofs.Common.{◌∙◌, sym, subst}
use Rattle.store_model.specs.declared.call.Call.TheVariants.{List as Lists}
use Rattle.in_tree.specs.Observed.{cells_of}
use Rattle.txn_core.specs.Known.{known_of}
use Rattle.txn_core.specs.Planning.{IsPlanned}
use Rattle.txn_core.specs.declared.planned.Planned.{Planned}
use Rattle.je_disk.specs.Moments.{now}
use Rattle.log_buffer.specs.Buffer.{disk_of}
use Rattle.engine.specs.Whole.{contents_of}
use Rattle.engine.proofs.CallLaws.{can_plan}
use Rattle.environment.proofs.CatalogEnds.{alone_at}
use Rattle.environment.proofs.CatalogStanding.{alone_of}
use Rattle.environment.proofs.ListLaws.{fills_nothing, logs_nothing, planned_names}
use Rattle.environment.proofs.environment.Environment.names.Goals as goal

pub plan-requires-clause-can : goal.plan-requires-clause-can
plan-requires-clause-can g c =
    let e = c.args.self.now in
    let at = c.requires.here.2 in
    can_plan c.requires.here.0 g.D.Disk.meaning.observable (now (g.D.Disk.meaning.history (disk_of e.engine.trees.log))) e.engine.trees.log (contents_of e.engine) (alone_of c.requires.here.1)
    (alone_at c.requires.here.0 g.D.Disk.meaning e c.requires.here.1 at) (sym at.fault ∙ c.requires.valid)

pub unreachable-requires-in-Fills : goal.unreachable-requires-in-Fills
unreachable-requires-in-Fills g c =
    let e = c.args.self.now.engine in
    let at = c.requires.here.2 in
    let st = c.requires.here.1 in
    let known = known_of (cells_of e.trees) e.kept.totals e.kept.last_db in
    fills_nothing known st c.in-Fills.field-0 (at.valid (sym at.fault ∙ c.requires.valid)).makes.store at.last_db
    (λ p session has. subst (λ (x : Planned). IsPlanned known p session Lists x) c.in-Fills.is (c.in_ok-planned.ensures p session has))

pub unreachable-requires : goal.unreachable-requires
unreachable-requires g c =
    let e = c.args.self.now.engine in
    let at = c.requires.here.2 in
    let st = c.requires.here.1 in
    let known = known_of (cells_of e.trees) e.kept.totals e.kept.last_db in
    logs_nothing known st c.in-Logs.field-0 (at.valid (sym at.fault ∙ c.requires.valid)).makes.store at.last_db
    (λ p session has. subst (λ (x : Planned). IsPlanned known p session Lists x) c.in-Logs.is (c.in_ok-planned.ensures p session has))

pub returns : goal.returns
returns g c = λ most st at.
    let e = c.args.self.now.engine in
    let known = known_of (cells_of e.trees) e.kept.totals e.kept.last_db in
    planned_names known st c.in-Answered.answer (at.valid (sym at.fault ∙ c.requires.valid)).makes.store at.last_db
    (λ p session has. subst (λ (x : Planned). IsPlanned known p session Lists x) c.in-Answered.is (c.in_ok-planned.ensures p session has))
