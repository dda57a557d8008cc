use Rattle.std.proofs.Common.{◌≡◌, ◌≢◌, ◌∙◌, ◌==◌, ◌+◌, true, false, true≢false, List, [], ◌∷◌, length, ℕ, refl, ap, sym, arith}
use Rattle.store_model.specs.declared.record_change.RecordChange.{RecordChange}
use Rattle.in_tree.specs.Observed.{cells_of}
use Rattle.txn_core.specs.Known.{committed}
use Rattle.environment.proofs.OwnFree.{own_free}
use Rattle.environment.proofs.CommitLaws.{empty_performs, fault_performs, room_performs, settled_performs}
use Rattle.environment.proofs.environment.Environment.commit.Goals as goal

pub returns-then-own-eq0 : goal.returns-then-own-eq0
returns-then-own-eq0 g c = record {
  performs = empty_performs g.D.Disk.meaning c.args.self.now c.abandon.new.self c.args.session c.of_session.result c.in-Some.active c.in-Some.is
      c.of_session.ensures c.own-own.result c.own-own.ensures c.requires.valid c.if-own-eq0.true c.abandon.ensures c.requires.bounds;
}

pub settle-requires-clause-room : goal.settle-requires-clause-room
settle-requires-clause-room g c =
    room_performs g.D.Disk.meaning c.args.self.now c.args.self.now c.args.session c.of_session.result c.in-Some.active c.in-Some.is
    c.of_session.ensures c.own-own.result c.own-own.ensures c.requires.valid c.if-own-eq0.false c.requires.here.0 c.requires.here.1 c.requires.here.2

pub settle-requires-clause-own : goal.settle-requires-clause-own
settle-requires-clause-own g c =
    let e = c.args.self.now in
    let st = c.requires.here.1 in
    let at = c.requires.here.2 in
    let valid = at.valid (sym at.fault ∙ c.requires.valid) in
    own_free (cells_of e.engine.trees) st.own (committed (cells_of e.engine.trees)) e.written.by_txn.entries c.in-Some.active.now.txn valid.writes valid.names

pub returns-in-Ok : goal.returns-in-Ok
returns-in-Ok g c = record {
  performs = settled_performs g.D.Disk.meaning c.args.self.now c.settle.new.self c.args.session c.of_session.result c.in-Some.active c.in-Some.is
      c.of_session.ensures c.own-own.result c.own-own.ensures c.requires.valid c.in-Some-records_with.records c.answer_of.result c.if-own-eq0.false c.in-Ok.ensures.done
      (ap (λ (n : ℕ). c.in-Some-records_with.records + n) (sym c.had_of-had.ensures) ∙ c.in-Some-records_with.ensures.counted)
      c.in-Some-records_with.ensures.fits c.answer_of.ensures;
}

pub returns-in-Err : goal.returns-in-Err
returns-in-Err g c = record {
  performs = fault_performs g.D.Disk.meaning c.args.self.now c.settle.new.self c.args.session c.of_session.result c.in-Some.active c.in-Some.is
      c.of_session.ensures c.own-own.result c.own-own.ensures c.requires.valid c.if-own-eq0.false c.in-Err.ensures.failed c.requires.bounds c.requires.here.0 c.requires.here.1 c.requires.here.2;
}
