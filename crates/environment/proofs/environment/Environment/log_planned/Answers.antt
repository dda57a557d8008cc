use Rattle.std.proofs.Common.{◌==◌, ◌∙◌, ℕ, List, ap, arith, sym, subst}
use Rattle.std.proofs.lemmas.Bool.{eqb-true}
use Rattle.std.proofs.lemmas.List.{nil_from_length}
use Rattle.in_tree.specs.Observed.{cells_of}
use Rattle.txn_core.specs.Known.{committed}
use Rattle.environment.specs.Auto.{IsAutoLog}
use Rattle.environment.proofs.AutoChanges.{answers_it, logs_it, some_by}
use Rattle.environment.proofs.environment.Environment.log_planned.Goals as goal

pub returns-then-is_empty : goal.returns-then-is_empty
returns-then-is_empty g c = record {
  plans = λ most session st call t may made answer own.
      answers_it most g.D.Disk.meaning c.args.self.now st session call t may c.args.answer answer
      (sym own ∙ nil_from_length c.args.changes.items (sym c.args.changes.ok.0 ∙ eqb-true c.args.changes.len 0 (sym c.is_empty.ensures ∙ c.if-is_empty.true)));
}

pub returns-in-Ok : goal.returns-in-Ok
returns-in-Ok g c = record {
  plans = λ most session st call t may made answer own.
      let e = c.args.self.now in
      let few = c.is_number.ensures in
      logs_it most g.D.Disk.meaning e st session call t may c.in-Ok.planned made (some_by c.args.changes.items _ (ap (λ (n : ℕ). n == 0) (sym c.args.changes.ok.0) ∙ sym c.is_empty.ensures ∙ c.if-is_empty.false) own) (omega (arith, few))
      (subst (λ (l : List _). IsAutoLog (committed (cells_of e.engine.trees)) e.engine.kept.totals e.engine.kept.last_db l c.in-Ok.planned) own c.in-Ok.ensures);
}
