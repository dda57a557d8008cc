use Rattle.std.proofs.Common.{◌∙◌, ◌+◌, refl, sym}
use Rattle.std.proofs.lemmas.Bool.{lt-ltb}
use Rattle.store_model.specs.declared.store.TheConstants.{LAST_TXN}
use Rattle.store_model.specs.Store.{names_of}
use Rattle.environment.proofs.BeginLaws.{none_left}
use Rattle.environment.proofs.ListLaws.{never_names, none_performs, not_listed_performs, outside_performs}
use Rattle.environment.proofs.environment.Environment.list_outside.Goals as goal

pub returns-then-last-ge-LAST_TXN : goal.returns-then-last-ge-LAST_TXN
returns-then-last-ge-LAST_TXN g c = record {
  performs = none_performs g.D.Disk.meaning c.args.self.now c.args.session c.requires.outside
      (none_left c.args.self.now.engine.kept.last_txn c.if-last-ge-LAST_TXN.true) c.requires.valid c.requires.bounds;
}

pub returns-in-Ok : goal.returns-in-Ok
returns-in-Ok g c = record {
  performs = outside_performs g.D.Disk.meaning c.args.self.now c.args.session (c.args.self.now.engine.kept.last_txn + 1) c.in-Ok.answer
      c.requires.outside (lt-ltb c.args.self.now.engine.kept.last_txn LAST_TXN c.if-last-ge-LAST_TXN.false) refl c.requires.valid c.requires.bounds
      c.in-Ok.ensures (λ is. never_names (names_of c.requires.here.1.store) (sym (c.in-Ok.ensures c.requires.here.0 c.requires.here.1 c.requires.here.2) ∙ is));
}

pub returns-in-Err : goal.returns-in-Err
returns-in-Err g c = record {
  performs = not_listed_performs g.D.Disk.meaning c.args.self.now c.args.session c.in-Err.error c.requires.bounds;
}
