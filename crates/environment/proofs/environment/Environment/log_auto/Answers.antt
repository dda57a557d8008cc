-- What a call of its own changes is logged with its Commit, or not.
use Rattle.std.proofs.Common.{◌≤◌, ◌+◌, ℕ, Ok, Err, length, ap, sym, subst, arith, ◌∙◌}
use Rattle.store_model.specs.declared.answer.Answer.{Answer}
use Rattle.store_model.specs.declared.answer.Answer.TheVariants.{DiskFault}
use Rattle.je_answers.specs.Events.{auto_active, begun}
use Rattle.je_answers.specs.Views.{needs_in}
use Rattle.log_replay.specs.Rows.{numbers_of}
use Rattle.txn_core.specs.Known.{committed}
use Rattle.txn_core.proofs.Committing.{few_new}
use Rattle.in_tree.specs.Observed.{cells_of, limit_in}
use Rattle.engine.specs.Steps.{LogsChanges, txn_of}
use Rattle.engine.specs.Whole.{EndsNear, LeavesCells, contents_of}
use Rattle.engine.proofs.LogLaws.{made_new, made_there}
use Rattle.environment.specs.Auto.{alone_in, with_sessions}
use Rattle.environment.proofs.AutoLogged.{below, comes_closed, comes_failed, comes_not, names_free, no_index, told_come, with_both}
use Rattle.environment.proofs.Standing.{sessions_faulted}
use Rattle.environment.proofs.environment.Environment.log_auto.Goals as goal

-- src/access_auto.rt:190:15
pub log_among-requires-clause-free : goal.log_among-requires-clause-free
log_among-requires-clause-free g c =
    let here = c.requires.here in
    names_free g.D.Disk.meaning here.0 (with_sessions here.1 c.args.self.now) here.2 c.args.session 0 here.3 here.4 c.args.planned here.5 here.6 here.7.free

-- src/access_auto.rt:190:15
pub log_among-requires-clause-few : goal.log_among-requires-clause-few
log_among-requires-clause-few g c =
    let here = c.requires.here in
    few_new (cells_of c.args.self.now.engine.trees) c.args.planned.changes.items c.are_ordered.ensures (here.6.log.few
    (no_index g.D.Disk.meaning here.0 (with_sessions here.1 c.args.self.now) here.2 c.args.session 0 here.3 here.4 c.args.planned here.5 here.6 here.7.free))

-- src/access_auto.rt:190:15
pub log_among-requires-clause-there : goal.log_among-requires-clause-there
log_among-requires-clause-there g c =
    let here = c.requires.here in
    let old = c.args.self.now in
    made_there old.engine.trees old.engine.kept (alone_in here.2) c.args.session here.3 c.args.planned (here.5.at.valid here.5.valid).made here.6.log
    (no_index g.D.Disk.meaning here.0 (with_sessions here.1 c.args.self.now) here.2 c.args.session 0 here.3 here.4 c.args.planned here.5 here.6 here.7.free)

-- src/access_auto.rt:190:15
pub log_among-requires-clause-new : goal.log_among-requires-clause-new
log_among-requires-clause-new g c = λ low.
    let here = c.requires.here in
    let old = c.args.self.now in
    made_new old.engine.trees old.engine.kept (alone_in here.2) c.args.session here.3 c.args.planned (here.5.at.valid here.5.valid).made
    (subst (λ (n : ℕ). Rattle.std.specs.List.AllByRecursion (λ m. m ≤ n) (numbers_of (committed (cells_of old.engine.trees)))) (sym here.5.at.last_db) (here.5.at.valid here.5.valid).makes.numbers) here.6.log low

-- src/access_auto.rt:190:15
pub log_among-requires-clause-entries : goal.log_among-requires-clause-entries
log_among-requires-clause-entries g c =
    let here = c.requires.here in
    let old = c.args.self.now in
    let few = below g.D.Disk.meaning here.0 (with_sessions here.1 old) here.2 c.args.session 0 here.3 here.4 c.args.planned here.5 here.6 here.7.free in
    here.6.log.entries (txn_of (old.engine.kept.last_txn + 1)) (omega (arith, few))

-- src/access_auto.rt:174:5
pub returns-in-Ok-DiskFault-clause-comes : goal.returns-in-Ok-DiskFault-clause-comes
returns-in-Ok-DiskFault-clause-comes g c most s st line call t may log taken txn owed =
    let old = c.args.self.now in
    let n = c.log_among.new.self in
    told_come g.D.Disk.meaning most (with_sessions s old) (with_both (with_sessions s old) n c.undo_auto.new.sessions) st c.args.session line call
    DiskFault c.told.result.answer c.told.result.victims c.told.ensures.answer c.told.ensures.victims
    (comes_failed g.D.Disk.meaning most (with_sessions s old) st c.args.session line call t c.args.planned may log taken.free n c.undo_auto.new.sessions
    (subst (λ (x : ℕ). LogsChanges g.D.Disk.meaning old.engine.trees.log n.trees.log (contents_of old.engine) (contents_of n) c.args.planned (limit_in old.engine.trees c.args.planned.changes.items x) (Ok DiskFault)) owed
    (subst (λ (x : Answer). LogsChanges g.D.Disk.meaning old.engine.trees.log n.trees.log (contents_of old.engine) (contents_of n) c.args.planned (limit_in old.engine.trees c.args.planned.changes.items c.args.owed) (Ok x)) c.in-Ok-DiskFault.field-0-is
    c.in-Ok-DiskFault.ensures.logs))
    (subst (λ (x : Answer). EndsNear old.engine.trees n.trees (length c.args.planned.changes.items) (Ok x)) c.in-Ok-DiskFault.field-0-is c.in-Ok-DiskFault.ensures.near)
    (sessions_faulted c.undo_auto.new.sessions st st.begun (c.undo_auto.ensures c.args.session st (needs_in (begun st c.args.session) (auto_active st c.args.session) call t) (ap txn_of txn) taken)))

-- src/access_auto.rt:174:5
pub returns-in-Ok : goal.returns-in-Ok
returns-in-Ok g c = record {
  comes = λ most s st line call t may log taken txn owed.
      let old = c.args.self.now in
      let n = c.log_among.new.self in
      told_come g.D.Disk.meaning most (with_sessions s old) (with_both (with_sessions s old) n c.close_auto.new.sessions) st c.args.session line call
      c.in-Ok.answer c.told-in-Ok.result.answer c.told-in-Ok.result.victims c.told-in-Ok.ensures.answer c.told-in-Ok.ensures.victims
      (comes_closed g.D.Disk.meaning most (with_sessions s old) st c.args.session line call t c.args.planned may log taken.free n c.close_auto.new.sessions
      c.in-Ok.answer
      (subst (λ (x : ℕ). LogsChanges g.D.Disk.meaning old.engine.trees.log n.trees.log (contents_of old.engine) (contents_of n) c.args.planned (limit_in old.engine.trees c.args.planned.changes.items x) (Ok c.in-Ok.answer)) owed
      c.in-Ok.ensures.logs)
      c.in-Ok.ensures.near
      (subst (λ (x : ℕ). LeavesCells old.engine.trees n.trees c.args.planned x (Ok c.in-Ok.answer)) owed c.in-Ok.ensures.trees)
      (c.log_among.ensures.indexes, c.log_among.ensures.names)
      (c.close_auto.ensures st (needs_in (begun st c.args.session) (auto_active st c.args.session) call t) (ap txn_of txn) taken)
      c.is_number.ensures);
  bounds = c.log_among.ensures.bounds;
  cause = record { never_falls = c.log_among.ensures.cause.never_falls; fault = λ fault. c.in-Ok.ensures.cause.fault (sym c.told-in-Ok.ensures.answer ∙ fault) };
}

-- src/access_auto.rt:174:5
pub returns-in-Err-clause-comes : goal.returns-in-Err-clause-comes
returns-in-Err-clause-comes g c most s st line call t may log taken txn owed =
    let old = c.args.self.now in
    let n = c.log_among.new.self in
    comes_not g.D.Disk.meaning most (with_sessions s old) st c.args.session line call t c.args.planned may log taken.free n c.undo_auto-in-Err.new.sessions
    c.in-Err.error
    (subst (λ (x : ℕ). LogsChanges g.D.Disk.meaning old.engine.trees.log n.trees.log (contents_of old.engine) (contents_of n) c.args.planned (limit_in old.engine.trees c.args.planned.changes.items x) (Err c.in-Err.error)) owed
    c.in-Err.ensures.logs)
    c.in-Err.ensures.near
    (subst (λ (x : ℕ). LeavesCells old.engine.trees n.trees c.args.planned x (Err c.in-Err.error)) owed c.in-Err.ensures.trees)
    (c.log_among.ensures.indexes, c.log_among.ensures.names)
    (c.undo_auto-in-Err.ensures c.args.session st (needs_in (begun st c.args.session) (auto_active st c.args.session) call t) (ap txn_of txn) taken)
