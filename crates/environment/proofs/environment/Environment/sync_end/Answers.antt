use Rattle.std.proofs.Common.{◌≡◌, ◌⊎◌, ℕ, [], Option, None, Some, Err, ap, refl, sym, subst, ◌∙◌, inl, inr}
use Rattle.je_disk.specs.Moments.{now}
use Rattle.serial_replay.proofs.Attempts.{reached_goes-on}
use Rattle.environment.proofs.ReachedLaws.{ends_by}
use Rattle.store_model.specs.declared.event.Event.TheVariants.{SyncEnd}
use Rattle.je_answers.specs.After.{after_events}
use Rattle.je_answers.specs.Events.{IsSyncEnded}
use Rattle.log_buffer.specs.Crash.{Holds}
use Rattle.environment.specs.Valid.{fitting}
use Rattle.je_disk.specs.States.{State}
use Rattle.store_model.specs.declared.answer.Answer.TheVariants.{DiskFault, Durable}
use Rattle.log_buffer.specs.Buffer.{disk_of, first_of}
use Rattle.in_tree.specs.Observed.{cells_of, has_tree_of}
use Rattle.log_file.specs.Log.{Log}
use Rattle.engine.proofs.ObservedLaws.{as_observed, of_observed}
use Rattle.engine.proofs.SyncLaws.{ended_safely, not_ended_safely, out_is}
use Rattle.engine.proofs.WholeLaws.{still_works}
use Rattle.environment.proofs.Standing.{IsLike, at_like, at_failed, right_begun, works_in}
use Rattle.environment.proofs.environment.Environment.sync_end.Goals as goal

pub returns-in-Ok-clause-ends : goal.returns-in-Ok-clause-ends
returns-in-Ok-clause-ends g c = λ most st here none out.
    let e = c.args.self.now in
    let state : g.row.D.Denot → State = λ d. now (g.D.Disk.meaning.history d) in
    let old = c.args.self.now.engine.trees.log in
    let new = c.sync_end.new.self in
    let same = c.sync_end.ensures.kept in
    let like : IsLike g.D.Disk.meaning.observable (state (disk_of old)) (state (disk_of new)) old new = record {
      logs = c.in-Ok.ensures.log;
      end = same.end;
      max = same.max;
      works = still_works c.sync_end.result c.in-Ok.field-0 new c.in-Ok.is c.sync_end.ensures.cause.failed;
      room = same.room;
    } in
    (subst (λ (n : Option ℕ). IsSyncEnded None n (Durable c.args.begun)) (sym out) (inl refl), record { at = at_like most g.D.Disk.meaning.observable (state (disk_of old)) (state (disk_of new)) old new (cells_of e.engine.trees) (has_tree_of e.engine.trees) (fitting e.engine.trees) e.engine.kept e.sessions e.written.by_txn.entries st None like here.at; right = λ valid. right_begun st None (here.right valid); bare = here.bare; reached = reached_goes-on None st (SyncEnd (Durable c.args.begun)) here.reached (ends_by st c.args.begun (Durable c.args.begun) none out (inl refl)) })

pub returns-in-Err-clause-ends : goal.returns-in-Err-clause-ends
returns-in-Err-clause-ends g c = λ most st here none out.
    let e = c.args.self.now in
    let state : g.row.D.Denot → State = λ d. now (g.D.Disk.meaning.history d) in
    let old = c.args.self.now.engine.trees.log in
    let new = c.sync_end.new.self in
    (subst (λ (n : Option ℕ). IsSyncEnded None n DiskFault) (sym out) (inr refl), record { at = at_failed most g.D.Disk.meaning.observable (state (disk_of old)) (state (disk_of new)) old new (cells_of e.engine.trees) (cells_of e.engine.trees) (has_tree_of e.engine.trees) (has_tree_of e.engine.trees) (fitting e.engine.trees) (fitting e.engine.trees) e.engine.kept e.sessions e.written.by_txn.entries e.written.by_txn.entries st None c.sync_end.ensures.kept.max here.at; right = λ valid. absurd cc; bare = λ valid. absurd cc; reached = reached_goes-on None st (SyncEnd DiskFault) here.reached (ends_by st c.args.begun DiskFault none out (inr refl)) })

pub returns-in-Ok-clause-crash : goal.returns-in-Ok-clause-crash
returns-in-Ok-clause-crash g c = λ observed most st start journal here none out is.
    let log : Log = is.0 in
    let guarded = is.1 in
    let state : g.row.D.Denot → State = λ d. now (g.D.Disk.meaning.history d) in
    let old = c.args.self.now.engine.trees.log in
    let new = c.sync_end.new.self in
    let keeping = guarded.works none in
    let has = as_observed g.D.Disk.meaning.observable (state (disk_of old)) old log observed keeping.has in
    let covered = out_is (after_events st journal).begun guarded.base log guarded.begun c.args.begun out (guarded.covers none) in
    let holds : Holds log [] guarded.least (Some covered.0) (first_of old) (state (disk_of old)) = subst (λ (b : Option ℕ). Holds log [] guarded.least b (first_of old) (state (disk_of old))) covered.1 keeping.holds in (
      log,
      ended_safely st log start c.args.begun covered.0 (g.D.Disk.meaning.history (disk_of old)) (g.D.Disk.meaning.history (disk_of new)) old new journal none out guarded covered.1
          (c.sync_end.ensures.crash observed log [] guarded.least covered.0 has holds) holds.job.no_less c.sync_end.ensures.kept.max
          (record {
            has = of_observed g.D.Disk.meaning.observable (state (disk_of new)) new log observed (c.in-Ok.ensures.log log has);
            holds = c.in-Ok.ensures.holds observed log [] guarded.least covered.0 has holds;
          }),
    )

pub returns-in-Err-clause-crash : goal.returns-in-Err-clause-crash
returns-in-Err-clause-crash g c = λ observed most st start journal here none out is.
    let log : Log = is.0 in
    let guarded = is.1 in
    let state : g.row.D.Denot → State = λ d. now (g.D.Disk.meaning.history d) in
    let old = c.args.self.now.engine.trees.log in
    let new = c.sync_end.new.self in
    let keeping = guarded.works none in
    let covered = out_is (after_events st journal).begun guarded.base log guarded.begun c.args.begun out (guarded.covers none) in
    let holds : Holds log [] guarded.least (Some covered.0) (first_of old) (state (disk_of old)) = subst (λ (b : Option ℕ). Holds log [] guarded.least b (first_of old) (state (disk_of old))) covered.1 keeping.holds in (
      log,
      not_ended_safely st log start (g.D.Disk.meaning.history (disk_of old)) (g.D.Disk.meaning.history (disk_of new)) old new journal none guarded
          (c.sync_end.ensures.crash observed log [] guarded.least covered.0 (as_observed g.D.Disk.meaning.observable (state (disk_of old)) old log observed keeping.has) holds)
          (c.in-Err.ensures.cause.failed.1 (ap Err c.in-Err.ensures.by_fault)),
    )

pub returns-in-Err-clause-cause : goal.returns-in-Err-clause-cause
returns-in-Err-clause-cause g c = λ most st here none is.
    c.in-Err.ensures.cause.fault (works_in most g.D.Disk.meaning.observable (now (g.D.Disk.meaning.history (disk_of c.args.self.now.engine.trees.log))) c.args.self.now st here none) (ap Err c.in-Err.ensures.by_fault)
