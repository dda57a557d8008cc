use Rattle.std.proofs.Common.{sym, subst}
use Rattle.store_model.specs.declared.call.Call.{Call}
use Rattle.environment.specs.Steps.{PerformsAnswer}
use Rattle.environment.proofs.PerformedLaws.{performs_only}
use Rattle.environment.proofs.environment.Environment.make.Goals as goal

pub returns-in-Begin : goal.returns-in-Begin
returns-in-Begin g c = record {
  performs = performs_only g.D.Disk.meaning c.args.self.now c.begin.new.self c.args.session c.args.line c.args.call.now c.args.resumed
      c.begin.result c.only.result c.only.ensures
      (subst (λ (x : Call). PerformsAnswer g.D.Disk.meaning c.args.self.now c.begin.new.self c.args.session x c.begin.result)
      (sym c.in-Begin.is) c.begin.ensures.performs);
}

pub returns-in-Commit : goal.returns-in-Commit
returns-in-Commit g c = record {
  performs = performs_only g.D.Disk.meaning c.args.self.now c.commit.new.self c.args.session c.args.line c.args.call.now c.args.resumed
      c.commit.result c.only-in-Commit.result c.only-in-Commit.ensures
      (subst (λ (x : Call). PerformsAnswer g.D.Disk.meaning c.args.self.now c.commit.new.self c.args.session x c.commit.result)
      (sym c.in-Commit.is) c.commit.ensures.performs);
}

pub returns-in-Abort : goal.returns-in-Abort
returns-in-Abort g c = record {
  performs = performs_only g.D.Disk.meaning c.args.self.now c.abort.new.self c.args.session c.args.line c.args.call.now c.args.resumed
      c.abort.result c.only-in-Abort.result c.only-in-Abort.ensures
      (subst (λ (x : Call). PerformsAnswer g.D.Disk.meaning c.args.self.now c.abort.new.self c.args.session x c.abort.result)
      (sym c.in-Abort.is) c.abort.ensures.performs);
}

pub returns-in-List : goal.returns-in-List
returns-in-List g c = record {
  performs = performs_only g.D.Disk.meaning c.args.self.now c.list.new.self c.args.session c.args.line c.args.call.now c.args.resumed
      c.list.result c.only-in-List.result c.only-in-List.ensures
      (subst (λ (x : Call). PerformsAnswer g.D.Disk.meaning c.args.self.now c.list.new.self c.args.session x c.list.result)
      (sym c.in-List.is) c.list.ensures.performs);
}

pub returns-in-Create : goal.returns-in-Create
returns-in-Create g c = record {
  performs = performs_only g.D.Disk.meaning c.args.self.now c.change_catalog.new.self c.args.session c.args.line c.args.call.now c.args.resumed
      c.change_catalog.result c.only-in-Create.result c.only-in-Create.ensures c.change_catalog.ensures.performs;
}

pub returns-in-Open : goal.returns-in-Open
returns-in-Open g c = record {
  performs = performs_only g.D.Disk.meaning c.args.self.now c.open_cursor.new.self c.args.session c.args.line c.args.call.now c.args.resumed
      c.open_cursor.result c.only-in-Open.result c.only-in-Open.ensures
      (subst (λ (x : Call). PerformsAnswer g.D.Disk.meaning c.args.self.now c.open_cursor.new.self c.args.session x c.open_cursor.result)
      (sym c.in-Open.is) c.open_cursor.ensures.performs);
}

pub returns-in-Dup : goal.returns-in-Dup
returns-in-Dup g c = record {
  performs = performs_only g.D.Disk.meaning c.args.self.now c.duplicate_cursor.new.self c.args.session c.args.line c.args.call.now c.args.resumed
      c.duplicate_cursor.result c.only-in-Dup.result c.only-in-Dup.ensures
      (subst (λ (x : Call). PerformsAnswer g.D.Disk.meaning c.args.self.now c.duplicate_cursor.new.self c.args.session x c.duplicate_cursor.result)
      (sym c.in-Dup.is) c.duplicate_cursor.ensures.performs);
}
