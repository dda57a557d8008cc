use Rattle.std.proofs.Common.{Bool, sym, subst}
use Rattle.engine.specs.Steps.{LogsChanges}
use Rattle.engine.specs.Whole.{contents_of}
use Rattle.environment.specs.Whole.{limit_found}
use Rattle.environment.proofs.catalog_log.log_catalog.Goals as goal

pub log_filled-requires-clause-free : goal.log_filled-requires-clause-free
log_filled-requires-clause-free g c = c.requires.unused c.if-fills.true

pub log_filled-requires-clause-fills : goal.log_filled-requires-clause-fills
log_filled-requires-clause-fills g c = c.requires.filling c.if-fills.true

pub returns-then-fills-clause-logs : goal.returns-then-fills-clause-logs
returns-then-fills-clause-logs g c =
    let old = c.args.engine.now in
    let n = c.log_filled.new.self in
    subst (λ (b : Bool). LogsChanges g.D.Disk.meaning old.trees.log n.trees.log (contents_of old) (contents_of n) c.args.changes
    (limit_found b old.trees c.args.changes.changes.items c.args.owed) c.log_filled.result) (sym c.if-fills.true) c.log_filled.ensures.logs

pub log_among-requires-clause-free : goal.log_among-requires-clause-free
log_among-requires-clause-free g c = c.requires.free c.if-fills.false

pub log_among-requires-clause-few : goal.log_among-requires-clause-few
log_among-requires-clause-few g c = c.requires.few c.if-fills.false

pub log_among-requires-clause-there : goal.log_among-requires-clause-there
log_among-requires-clause-there g c = c.requires.there c.if-fills.false

pub log_among-requires-clause-new : goal.log_among-requires-clause-new
log_among-requires-clause-new g c = c.requires.new c.if-fills.false

pub returns-else-fills-clause-logs : goal.returns-else-fills-clause-logs
returns-else-fills-clause-logs g c =
    let old = c.args.engine.now in
    let n = c.log_among.new.self in
    subst (λ (b : Bool). LogsChanges g.D.Disk.meaning old.trees.log n.trees.log (contents_of old) (contents_of n) c.args.changes
    (limit_found b old.trees c.args.changes.changes.items c.args.owed) c.log_among.result) (sym c.if-fills.false) c.log_among.ensures.logs
