use Rattle.std.proofs.Common.{◌∙◌, ◌+◌, refl, sym}
use Rattle.std.proofs.lemmas.Bool.{lt-ltb}
use Rattle.store_model.specs.declared.store.TheConstants.{LAST_TXN}
use Rattle.environment.proofs.Answering.{owed_is}
use Rattle.environment.proofs.BeginLaws.{began_performs, none_left, not_begun_performs, refused_performs}
use Rattle.environment.proofs.EndingLaws.{near_owed}
use Rattle.environment.proofs.environment.Environment.begin.Goals as goal

pub returns-in-Err : goal.returns-in-Err
returns-in-Err g c =
    let st = c.requires.here.1 in
    let at = c.requires.here.2 in
    record {
      performs = not_begun_performs g.D.Disk.meaning c.args.level c.args.durability c.args.wait c.args.self.now c.begin.new.self c.args.session
          c.in-Err.error c.requires.bounds c.in-Err.ensures.err
          (near_owed c.args.self.now c.begin.new.self (owed_is c.begin.new.self st (c.in-Err.ensures.err st at.sessions_at) ∙ sym (owed_is c.args.self.now.sessions st at.sessions_at)));
    }

pub returns-in-Ok : goal.returns-in-Ok
returns-in-Ok g c = record {
  performs = began_performs g.D.Disk.meaning c.args.level c.args.durability c.args.wait c.args.self.now c.begin.new.self c.args.session
      (c.args.self.now.engine.kept.last_txn + 1) (record { 0 = c.args.self.now.engine.kept.last_txn + 1 }) (lt-ltb c.args.self.now.engine.kept.last_txn LAST_TXN c.if-last-ge-LAST_TXN.false) refl refl c.requires.valid c.requires.bounds c.in-Ok.ensures.stands;
}

pub returns-then-last-ge-LAST_TXN : goal.returns-then-last-ge-LAST_TXN
returns-then-last-ge-LAST_TXN g c = record {
  performs = refused_performs g.D.Disk.meaning c.args.level c.args.durability c.args.wait c.args.self.now c.args.session
      (none_left c.args.self.now.engine.kept.last_txn c.if-last-ge-LAST_TXN.true) c.requires.valid c.requires.bounds;
}
