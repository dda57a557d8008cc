-- What a call changes is logged with its Commit, or not, where no transaction is under way.
use Rattle.std.proofs.Common.{◌≤◌, ◌+◌, ℕ, Ok, Err, sym, subst, arith, ◌∙◌}
use Rattle.je_answers.specs.Events.{auto_active, begun}
use Rattle.je_answers.specs.Views.{needs_in}
use Rattle.log_replay.specs.Rows.{numbers_of}
use Rattle.txn_core.specs.Known.{committed}
use Rattle.txn_core.proofs.Committing.{few_new}
use Rattle.in_tree.specs.Observed.{cells_of, limit_in}
use Rattle.engine.specs.Steps.{LogsChanges, txn_of}
use Rattle.engine.specs.Whole.{LeavesCells, contents_of}
use Rattle.engine.proofs.LogLaws.{made_new, made_there}
use Rattle.environment.specs.Auto.{alone_in}
use Rattle.environment.proofs.AutoAlone.{closed_so, nobody_blocks, none_owes}
use Rattle.environment.proofs.AutoLogged.{below, comes_closed, comes_not, names_free, no_index, told_come, with_both}
use Rattle.environment.proofs.environment.Environment.log_alone.Goals as goal

pub log_among-requires-clause-free : goal.log_among-requires-clause-free
log_among-requires-clause-free g c =
    let h = c.requires.here in
    names_free g.D.Disk.meaning h.0 c.args.self.now h.2 h.1 0 h.3 h.4 c.args.planned h.5 h.6 (nobody_blocks h.2 h.1 h.3 h.4 h.5.sound h.7)

pub log_among-requires-clause-few : goal.log_among-requires-clause-few
log_among-requires-clause-few g c =
    let h = c.requires.here in
    few_new (cells_of c.args.self.now.engine.trees) c.args.planned.changes.items c.are_ordered.ensures (h.6.log.few
    (no_index g.D.Disk.meaning h.0 c.args.self.now h.2 h.1 0 h.3 h.4 c.args.planned h.5 h.6 (nobody_blocks h.2 h.1 h.3 h.4 h.5.sound h.7)))

pub log_among-requires-clause-there : goal.log_among-requires-clause-there
log_among-requires-clause-there g c =
    let h = c.requires.here in
    let old = c.args.self.now in
    made_there old.engine.trees old.engine.kept (alone_in h.2) h.1 h.3 c.args.planned (h.5.at.valid h.5.valid).made h.6.log
    (no_index g.D.Disk.meaning h.0 c.args.self.now h.2 h.1 0 h.3 h.4 c.args.planned h.5 h.6 (nobody_blocks h.2 h.1 h.3 h.4 h.5.sound h.7))

pub log_among-requires-clause-new : goal.log_among-requires-clause-new
log_among-requires-clause-new g c = λ low.
    let h = c.requires.here in
    let old = c.args.self.now in
    made_new old.engine.trees old.engine.kept (alone_in h.2) h.1 h.3 c.args.planned (h.5.at.valid h.5.valid).made
    (subst (λ (n : ℕ). Rattle.std.specs.List.AllByRecursion (λ m. m ≤ n) (numbers_of (committed (cells_of old.engine.trees)))) (sym h.5.at.last_db) (h.5.at.valid h.5.valid).makes.numbers) h.6.log low

pub log_among-requires-clause-entries : goal.log_among-requires-clause-entries
log_among-requires-clause-entries g c =
    let h = c.requires.here in
    let old = c.args.self.now in
    let few = below g.D.Disk.meaning h.0 old h.2 h.1 0 h.3 h.4 c.args.planned h.5 h.6 (nobody_blocks h.2 h.1 h.3 h.4 h.5.sound h.7) in
    h.6.log.entries (txn_of (old.engine.kept.last_txn + 1)) (omega (arith, few))

pub returns-in-Ok : goal.returns-in-Ok
returns-in-Ok g c = record {
  comes = λ most session line st call t may log none.
      let old = c.args.self.now in
      let n = c.log_among.new.self in
      let one = sym (none_owes st may.sound none) in
      told_come g.D.Disk.meaning most old (with_both old n old.sessions) st session line call c.in-Ok.answer c.told.result.answer c.told.result.victims c.told.ensures.answer
      c.told.ensures.victims
      (comes_closed g.D.Disk.meaning most old st session line call t c.args.planned may log (nobody_blocks st session call t may.sound none) n old.sessions c.in-Ok.answer
      (subst (λ (x : ℕ). LogsChanges g.D.Disk.meaning old.engine.trees.log n.trees.log (contents_of old.engine) (contents_of n) c.args.planned (limit_in old.engine.trees c.args.planned.changes.items x) (Ok c.in-Ok.answer)) one
      c.in-Ok.ensures.logs)
      c.in-Ok.ensures.near
      (subst (λ (x : ℕ). LeavesCells old.engine.trees n.trees c.args.planned x (Ok c.in-Ok.answer)) one c.in-Ok.ensures.trees)
      (c.log_among.ensures.indexes, c.log_among.ensures.names)
      (closed_so old.sessions st session (needs_in (begun st session) (auto_active st session) call t) may.sound none may.at.sessions_at)
      c.is_number.ensures);
  bounds = c.log_among.ensures.bounds;
  cause = record { never_falls = c.log_among.ensures.cause.never_falls; fault = λ fault. c.in-Ok.ensures.cause.fault (sym c.told.ensures.answer ∙ fault) };
}

pub returns-in-Err-clause-comes : goal.returns-in-Err-clause-comes
returns-in-Err-clause-comes g c most session line st call t may log none =
    let old = c.args.self.now in
    let n = c.log_among.new.self in
    comes_not g.D.Disk.meaning most old st session line call t c.args.planned may log (nobody_blocks st session call t may.sound none) n old.sessions c.in-Err.error
    (subst (λ (x : ℕ). LogsChanges g.D.Disk.meaning old.engine.trees.log n.trees.log (contents_of old.engine) (contents_of n) c.args.planned (limit_in old.engine.trees c.args.planned.changes.items x) (Err c.in-Err.error)) (sym (none_owes st may.sound none))
    c.in-Err.ensures.logs)
    c.in-Err.ensures.near c.in-Err.ensures.trees (c.log_among.ensures.indexes, c.log_among.ensures.names) may.at.sessions_at
