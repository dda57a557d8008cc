use Rattle.std.proofs.Common.{◌∙◌, ◌+◌, ap, sym, subst, arith, ℕ, Bool}
use Rattle.je_disk.specs.Moments.{now}
use Rattle.log_buffer.specs.Buffer.{disk_of}
use Rattle.in_tree.specs.Observed.{cells_of}
use Rattle.index_map.specs.Map.{HasIndexes}
use Rattle.db_names.specs.Names.{HasNames}
use Rattle.txn_core.proofs.Committing.{few_new}
use Rattle.engine.specs.Contents.{known}
use Rattle.engine.specs.Steps.{txn_of}
use Rattle.engine.specs.Whole.{contents_of}
use Rattle.engine.proofs.CallLaws.{model}
use Rattle.engine.proofs.LogLaws.{made_new, made_there}
use Rattle.environment.specs.Catalog.{IsPlannedAs}
use Rattle.environment.proofs.CatalogEnds.{alone_at}
use Rattle.environment.proofs.CatalogLogged.{are_filling, free_filled, free_names, logs_performs}
use Rattle.environment.proofs.CatalogStanding.{alone_of}
use Rattle.environment.proofs.FollowLaws.{follows_call, not_held}
use Rattle.environment.proofs.environment.Environment.log_change.Goals as goal

pub log_catalog-logged-requires-clause-works : goal.log_catalog-logged-requires-clause-works
log_catalog-logged-requires-clause-works g c = let at = c.requires.here.2 in (at.valid (sym at.fault ∙ c.requires.valid)).works

pub log_catalog-logged-requires-clause-free : goal.log_catalog-logged-requires-clause-free
log_catalog-logged-requires-clause-free g c = λ other.
    let e = c.args.self.now in
    let at = c.requires.here.2 in
    let st = c.requires.here.1 in
    let none = sym at.fault ∙ c.requires.valid in
    let here = alone_at c.requires.here.0 g.D.Disk.meaning e st at in
    let its = c.requires.plan (alone_of st) c.args.session
    (model c.requires.here.0 g.D.Disk.meaning.observable (now (g.D.Disk.meaning.history (disk_of e.engine.trees.log))) e.engine.trees.log (contents_of e.engine) (alone_of st) here none c.requires.below) in
    free_names c.requires.here.0 g.D.Disk.meaning e st c.args.session c.args.call.now c.args.changes (txn_of (e.engine.kept.last_txn + 1)) at none c.requires.call
    (subst (λ (b : Bool). IsPlannedAs (known (contents_of e.engine)) (alone_of st) c.args.session c.args.call.now b c.args.changes) other its)

pub log_catalog-logged-requires-clause-few : goal.log_catalog-logged-requires-clause-few
log_catalog-logged-requires-clause-few g c = λ other.
    let e = c.args.self.now in
    let at = c.requires.here.2 in
    let st = c.requires.here.1 in
    let none = sym at.fault ∙ c.requires.valid in
    let here = alone_at c.requires.here.0 g.D.Disk.meaning e st at in
    let its = c.requires.plan (alone_of st) c.args.session
    (model c.requires.here.0 g.D.Disk.meaning.observable (now (g.D.Disk.meaning.history (disk_of e.engine.trees.log))) e.engine.trees.log (contents_of e.engine) (alone_of st) here none c.requires.below) in
    few_new (cells_of e.engine.trees) c.args.changes.changes.items c.are_ordered.ensures (its.log.few (its.kind ∙ other))

pub log_catalog-logged-requires-clause-there : goal.log_catalog-logged-requires-clause-there
log_catalog-logged-requires-clause-there g c = λ other.
    let e = c.args.self.now in
    let at = c.requires.here.2 in
    let st = c.requires.here.1 in
    let none = sym at.fault ∙ c.requires.valid in
    let here = alone_at c.requires.here.0 g.D.Disk.meaning e st at in
    let its = c.requires.plan (alone_of st) c.args.session
    (model c.requires.here.0 g.D.Disk.meaning.observable (now (g.D.Disk.meaning.history (disk_of e.engine.trees.log))) e.engine.trees.log (contents_of e.engine) (alone_of st) here none c.requires.below) in
    made_there e.engine.trees e.engine.kept (alone_of st) c.args.session c.args.call.now c.args.changes (at.valid none).made its.log (its.kind ∙ other)

pub log_catalog-logged-requires-clause-new : goal.log_catalog-logged-requires-clause-new
log_catalog-logged-requires-clause-new g c = λ other low.
    let e = c.args.self.now in
    let at = c.requires.here.2 in
    let st = c.requires.here.1 in
    let none = sym at.fault ∙ c.requires.valid in
    let here = alone_at c.requires.here.0 g.D.Disk.meaning e st at in
    let its = c.requires.plan (alone_of st) c.args.session
    (model c.requires.here.0 g.D.Disk.meaning.observable (now (g.D.Disk.meaning.history (disk_of e.engine.trees.log))) e.engine.trees.log (contents_of e.engine) (alone_of st) here none c.requires.below) in
    made_new e.engine.trees e.engine.kept (alone_of st) c.args.session c.args.call.now c.args.changes (at.valid none).made (here.valid none).gives.numbers its.log low

pub log_catalog-logged-requires-clause-unused : goal.log_catalog-logged-requires-clause-unused
log_catalog-logged-requires-clause-unused g c = λ fills low.
    let e = c.args.self.now in
    let at = c.requires.here.2 in
    let st = c.requires.here.1 in
    let none = sym at.fault ∙ c.requires.valid in
    let here = alone_at c.requires.here.0 g.D.Disk.meaning e st at in
    let its = c.requires.plan (alone_of st) c.args.session
    (model c.requires.here.0 g.D.Disk.meaning.observable (now (g.D.Disk.meaning.history (disk_of e.engine.trees.log))) e.engine.trees.log (contents_of e.engine) (alone_of st) here none c.requires.below) in
    free_filled c.requires.here.0 g.D.Disk.meaning e st c.args.session c.args.call.now c.args.changes (txn_of (e.engine.kept.last_txn + 1)) at none
    (subst (λ (b : Bool). IsPlannedAs (known (contents_of e.engine)) (alone_of st) c.args.session c.args.call.now b c.args.changes) fills its) low

pub log_catalog-logged-requires-clause-filling : goal.log_catalog-logged-requires-clause-filling
log_catalog-logged-requires-clause-filling g c = λ fills low.
    let e = c.args.self.now in
    let at = c.requires.here.2 in
    let st = c.requires.here.1 in
    let none = sym at.fault ∙ c.requires.valid in
    let here = alone_at c.requires.here.0 g.D.Disk.meaning e st at in
    let its = c.requires.plan (alone_of st) c.args.session
    (model c.requires.here.0 g.D.Disk.meaning.observable (now (g.D.Disk.meaning.history (disk_of e.engine.trees.log))) e.engine.trees.log (contents_of e.engine) (alone_of st) here none c.requires.below) in
    are_filling c.requires.here.0 g.D.Disk.meaning e st c.args.session c.args.call.now c.args.changes at none
    (subst (λ (b : Bool). IsPlannedAs (known (contents_of e.engine)) (alone_of st) c.args.session c.args.call.now b c.args.changes) fills its) low

pub log_catalog-logged-requires-clause-entries : goal.log_catalog-logged-requires-clause-entries
log_catalog-logged-requires-clause-entries g c =
    let e = c.args.self.now in
    let at = c.requires.here.2 in
    let st = c.requires.here.1 in
    let none = sym at.fault ∙ c.requires.valid in
    let here = alone_at c.requires.here.0 g.D.Disk.meaning e st at in
    let its = c.requires.plan (alone_of st) c.args.session
    (model c.requires.here.0 g.D.Disk.meaning.observable (now (g.D.Disk.meaning.history (disk_of e.engine.trees.log))) e.engine.trees.log (contents_of e.engine) (alone_of st) here none c.requires.below) in
    let below = c.requires.below in
    its.log.entries (txn_of (e.engine.kept.last_txn + 1)) (omega (arith, below))

pub returns-in_err-held : goal.returns-in_err-held
returns-in_err-held g c = record {
  performs = not_held g.D.Disk.meaning c.args.self.now c.hold.new.names c.hold.new.indexes c.args.session c.args.call.now c.from_residual-in_err-held.result
      c.from_residual-in_err-held.ensures.0 c.requires.valid c.requires.bounds c.in_err-held.ensures.names_err c.in_err-held.ensures.indexes_err;
}

pub returns : goal.returns
returns g c =
    let e = c.args.self.now in
    let n = c.log_catalog-logged.new.engine in
    let m = record n { kept = record n.kept { names = c.settle.new.names; indexes = c.settle.new.indexes } } in
    record {
      performs = logs_performs g.D.Disk.meaning e m c.args.session (c.owing-owing.result + 1) c.args.call.now c.args.fills
          c.args.changes c.log_catalog-logged.result c.requires.call c.requires.valid c.requires.below c.requires.few c.requires.plan c.requires.free (λ st at. ap (λ (m : ℕ). m + 1) (c.owing-owing.ensures st at)) c.requires.here
          c.log_catalog-logged.ensures.logs c.log_catalog-logged.ensures.near c.log_catalog-logged.ensures.trees
          (λ most st at.
          let none = sym at.fault ∙ c.requires.valid in
          let its = c.requires.plan (alone_of st) c.args.session
          (model most g.D.Disk.meaning.observable (now (g.D.Disk.meaning.history (disk_of e.engine.trees.log))) e.engine.trees.log (contents_of e.engine) (alone_of st) (alone_at most g.D.Disk.meaning e st at) none c.requires.below) in
          follows_call g.D.Disk.meaning most e st c.args.session c.args.call.now c.args.fills c.args.changes at none c.requires.call its
          c.in_ok-number.number c.in_ok-held.held c.in_ok-number.ensures c.in_ok-held.ensures.held n (c.owing-owing.result + 1) c.log_catalog-logged.result m.kept c.was_logged-done.result c.was_logged-done.ensures
          c.log_catalog-logged.ensures.logs
          (λ done was has named. c.settle.ensures.done done _ (subst (HasNames _) (sym c.log_catalog-logged.ensures.names) (c.in_ok-held.ensures.names_ok was has)) named)
          (λ done made has free. c.settle.ensures.less done _ (subst (HasIndexes _) (sym c.log_catalog-logged.ensures.indexes) (c.in_ok-held.ensures.indexes_ok made has free)))
          (λ left was has. c.settle.ensures.undone left _ (subst (HasNames _) (sym c.log_catalog-logged.ensures.names) (c.in_ok-held.ensures.names_ok was has)))
          (λ left made has free. c.settle.ensures.restored left _ (subst (HasIndexes _) (sym c.log_catalog-logged.ensures.indexes) (c.in_ok-held.ensures.indexes_ok made has free))))
          c.log_catalog-logged.ensures.bounds c.log_catalog-logged.ensures.cause;
    }
