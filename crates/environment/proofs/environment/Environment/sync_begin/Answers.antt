use Rattle.std.proofs.Common.{None, Some, Option, [], Err, ap, refl, inl, inr, subst, sym}
use Rattle.je_disk.specs.Moments.{now}
use Rattle.serial_replay.proofs.Attempts.{reached_goes-on}
use Rattle.store_model.specs.declared.answer.Answer.TheVariants.{Done, DiskFault}
use Rattle.store_model.specs.declared.answer.Fault.{Fault}
use Rattle.store_model.specs.declared.event.Event.TheVariants.{SyncBegin}
use Rattle.je_answers.specs.Events.{IsSyncBegun}
use Rattle.environment.specs.Valid.{fitting}
use Rattle.je_disk.specs.States.{State}
use Rattle.log_buffer.specs.Buffer.{disk_of}
use Rattle.in_tree.specs.Observed.{cells_of, has_tree_of}
use Rattle.log_file.specs.Log.{Log}
use Rattle.engine.proofs.ObservedLaws.{as_observed, of_observed}
use Rattle.engine.proofs.SyncLaws.{begun_safely, not_begun_safely}
use Rattle.engine.proofs.WholeLaws.{still_works}
use Rattle.environment.proofs.Standing.{IsLike, at_like, at_failed, right_begun, works_in}
use Rattle.environment.proofs.environment.Environment.sync_begin.Goals as goal

pub returns-in-Ok-clause-begins : goal.returns-in-Ok-clause-begins
returns-in-Ok-clause-begins g c = λ most st here none.
    let e = c.args.self.now in
    let state : g.row.D.Denot → State = λ d. now (g.D.Disk.meaning.history d) in
    let old = c.args.self.now.engine.trees.log in
    let new = c.sync_begin.new.self in
    let like : IsLike g.D.Disk.meaning.observable (state (disk_of old)) (state (disk_of new)) old new = record {
      logs = c.in-Ok.ensures.log;
      end = c.sync_begin.ensures.end;
      max = c.sync_begin.ensures.file_max;
      works = still_works c.sync_begin.result c.in-Ok.job new c.in-Ok.is c.sync_begin.ensures.cause.failed;
      room = c.in-Ok.ensures.room;
    } in
    (inl refl, record { at = at_like most g.D.Disk.meaning.observable (state (disk_of old)) (state (disk_of new)) old new (cells_of e.engine.trees) (has_tree_of e.engine.trees) (fitting e.engine.trees) e.engine.kept e.sessions e.written.by_txn.entries st (Some st.commits) like here.at; right = λ valid. right_begun st (Some st.commits) (here.right valid); bare = here.bare; reached = reached_goes-on None st (SyncBegin Done) here.reached (subst (λ (f : Option Fault). IsSyncBegun f Done) (sym none) (inl refl)) })

pub returns-in-Err-clause-begins : goal.returns-in-Err-clause-begins
returns-in-Err-clause-begins g c = λ most st here none.
    let e = c.args.self.now in
    let state : g.row.D.Denot → State = λ d. now (g.D.Disk.meaning.history d) in
    let old = c.args.self.now.engine.trees.log in
    let new = c.sync_begin.new.self in
    (inr refl, record { at = at_failed most g.D.Disk.meaning.observable (state (disk_of old)) (state (disk_of new)) old new (cells_of e.engine.trees) (cells_of e.engine.trees) (has_tree_of e.engine.trees) (has_tree_of e.engine.trees) (fitting e.engine.trees) (fitting e.engine.trees) e.engine.kept e.sessions e.written.by_txn.entries e.written.by_txn.entries st st.begun c.sync_begin.ensures.file_max here.at; right = λ valid. absurd cc; bare = λ valid. absurd cc; reached = reached_goes-on None st (SyncBegin DiskFault) here.reached (subst (λ (f : Option Fault). IsSyncBegun f DiskFault) (sym none) (inr refl)) })

pub returns-in-Ok-clause-crash : goal.returns-in-Ok-clause-crash
returns-in-Ok-clause-crash g c = λ observed most st start journal none is.
    let log : Log = is.0 in
    let guarded = is.1 in
    let state : g.row.D.Denot → State = λ d. now (g.D.Disk.meaning.history d) in
    let old = c.args.self.now.engine.trees.log in
    let new = c.sync_begin.new.self in
    let keeping = guarded.works none in
    let has = as_observed g.D.Disk.meaning.observable (state (disk_of old)) old log observed keeping.has in (
      log,
      begun_safely st log start (g.D.Disk.meaning.history (disk_of old)) (g.D.Disk.meaning.history (disk_of new)) old new journal none guarded
          (c.sync_begin.ensures.crash observed log [] guarded.least guarded.begun has keeping.holds) c.sync_begin.ensures.file_max
          (record {
            has = of_observed g.D.Disk.meaning.observable (state (disk_of new)) new log observed (c.in-Ok.ensures.log log has);
            holds = c.in-Ok.ensures.holds observed log [] guarded.least guarded.begun has keeping.holds;
          }),
    )

pub returns-in-Err-clause-crash : goal.returns-in-Err-clause-crash
returns-in-Err-clause-crash g c = λ observed most st start journal none is.
    let log : Log = is.0 in
    let guarded = is.1 in
    let state : g.row.D.Denot → State = λ d. now (g.D.Disk.meaning.history d) in
    let old = c.args.self.now.engine.trees.log in
    let new = c.sync_begin.new.self in
    let keeping = guarded.works none in (
      log,
      not_begun_safely st log start (g.D.Disk.meaning.history (disk_of old)) (g.D.Disk.meaning.history (disk_of new)) old new journal none guarded
          (c.sync_begin.ensures.crash observed log [] guarded.least guarded.begun (as_observed g.D.Disk.meaning.observable (state (disk_of old)) old log observed keeping.has) keeping.holds)
          (c.in-Err.ensures.cause.failed.1 (ap Err c.in-Err.ensures.by_fault)),
    )

pub returns-in-Err-clause-cause : goal.returns-in-Err-clause-cause
returns-in-Err-clause-cause g c = λ most st here none is.
    c.in-Err.ensures.cause.fault (works_in most g.D.Disk.meaning.observable (now (g.D.Disk.meaning.history (disk_of c.args.self.now.engine.trees.log))) c.args.self.now st here none) (ap Err c.in-Err.ensures.by_fault)
